use Rattle.std.proofs.Common.{◌≡◌, drop, map}
use Rattle.grail_blocks.specs.Events.{Use}
use Rattle.frame_locals.specs.Marking.{marks_after}
use Rattle.frame_locals.proofs.marking.use_all.Given as goal

abbrev pub invariant-locals : goal.invariant-locals
invariant-locals l = marks_after l.owned l.marks (map Use (drop l.local-index l.locals)) ≡ marks_after l.owned l.initial.marks (map Use l.locals)
