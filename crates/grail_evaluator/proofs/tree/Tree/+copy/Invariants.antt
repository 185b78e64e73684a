use Rattle.std.proofs.Common.{◌≡◌, ◌++◌, map, drop}
use Rattle.grail_evaluator.specs.Trees.{plain}
use Rattle.grail_evaluator.proofs.tree.Tree.+copy.Given as goal

abbrev pub invariant-parts : goal.invariant-parts
invariant-parts l = map plain l.copies.items ++ map plain (drop l.part-index l.part-items) ≡ map plain l.part-items
