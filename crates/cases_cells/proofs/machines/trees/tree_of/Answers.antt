use Rattle.std.proofs.Common.{subst}
use Rattle.cases_cells.specs.Trees.{IsFirst}
use Rattle.cases_cells.proofs.TreeLaws.{whole_alone}
use Rattle.cases_cells.proofs.machines.trees.tree_of.Goals as goal

pub returns-in-empty : goal.returns-in-empty
returns-in-empty c = whole_alone c.args.value.now c.items.result.now c.in-Some.first.rest.now c.in-Some.first.tree c.items.ensures (subst (IsFirst c.items.result.now) c.in-Some.is c.in_ok-first.ensures).0 c.in-empty.len_below
