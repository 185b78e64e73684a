use Rattle.std.proofs.Common.{◌≤◌, ◌-◌, length}
use Rattle.hole_list.specs.Places.{begin_before}
use Rattle.hole_list.proofs.places.count_begin_before.Given as goal

abbrev pub invariant-loop-low : goal.invariant-loop-low
invariant-loop-low l = record { low : l.low ≤ begin_before l.runs l.first; high : begin_before l.runs l.first ≤ l.high; within : l.high ≤ length l.runs }

abbrev pub decreases-loop-low : goal.decreases-loop-low
decreases-loop-low l = l.high - l.low
