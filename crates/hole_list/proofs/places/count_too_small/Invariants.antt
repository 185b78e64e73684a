use Rattle.std.proofs.Common.{◌≤◌}
use Rattle.hole_list.specs.Places.{too_small}
use Rattle.hole_list.proofs.places.count_too_small.Given as goal

abbrev pub invariant-loop-i : goal.invariant-loop-i
invariant-loop-i l = l.i ≤ too_small l.spans l.size
