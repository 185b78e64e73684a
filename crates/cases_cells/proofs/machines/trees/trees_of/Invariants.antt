use Rattle.std.proofs.Common.{◌≡◌, ◌++◌, drop}
use Rattle.grail_evaluator.specs.Trees.{plain_all}
use Rattle.cases_cells.proofs.machines.trees.trees_of.Given as goal

abbrev pub invariant-values : goal.invariant-values
invariant-values l = plain_all l.trees.items ++ drop l.value-index l.values ≡ l.values
