use Rattle.std.proofs.Common.{◌≤◌, ◌-◌, length}
use Rattle.hole_list.specs.Places.{ends_before}
use Rattle.hole_list.proofs.places.count_ends_before.Given as goal

abbrev pub invariant-loop-low : goal.invariant-loop-low
invariant-loop-low l = record { low : l.low ≤ ends_before l.spans l.first; high : ends_before l.spans l.first ≤ l.high; within : l.high ≤ length l.spans }

abbrev pub decreases-loop-low : goal.decreases-loop-low
decreases-loop-low l = l.high - l.low
