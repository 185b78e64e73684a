use Rattle.std.proofs.Common.{◌≡◌, drop, map}
use Rattle.camelot_tree.specs.Tree.{branch_of, arms}
use Rattle.linear_use.specs.Flow.{some_cell}
use Rattle.linear_use.proofs.parts.some_cell.Given as goal

abbrev pub invariant-arms : goal.invariant-arms
invariant-arms l = some_cell (arms (map branch_of (drop l.arm-index l.arms))) ≡ some_cell (arms (map branch_of l.arms))
