use Rattle.std.proofs.Common.{◌≡◌, length, map}
use Rattle.grail_blocks.specs.Events.{Use, taken_by}
use Rattle.frame_locals.specs.Marking.{marks_after}
use Rattle.frame_locals.proofs.marking.use_taken.Given as goal

abbrev pub invariant-taken : goal.invariant-taken
invariant-taken l = marks_after l.owned l.marks (map Use (taken_by l.of l.left)) ≡ marks_after l.owned l.initial.marks (map Use (taken_by l.reads l.args))

abbrev pub decreases-taken : goal.decreases-taken
decreases-taken l = length l.left
