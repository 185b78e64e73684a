use Rattle.std.proofs.Common.{subst}
use Rattle.cases_cells.specs.Trees.{IsFirst}
use Rattle.cases_cells.proofs.TreeLaws.{one_step}
use Rattle.cases_cells.proofs.machines.trees.+trees.Goals as goal

pub take_trees-trees-preserved : goal.take_trees-trees-preserved
take_trees-trees-preserved t c = one_step c.trees.counter c.args.items.now c.trees.trees.items c.push.new.self.items c.in-Some.first c.trees.rest.now c.in_ok-push-in-Some.ensures.items c.trees.invariant (subst (IsFirst c.trees.rest.now) c.in-Some.is c.in_ok-first.ensures)
