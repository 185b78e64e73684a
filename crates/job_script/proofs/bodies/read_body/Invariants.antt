use Rattle.std.proofs.Common.{length}
use Rattle.job_script.specs.Steps.{HasLines}
use Rattle.job_script.proofs.bodies.read_body.Given as goal

abbrev pub invariant-lines : goal.invariant-lines
invariant-lines l = record { read : HasLines l.rest l.left l.lines }

abbrev pub decreases-lines : goal.decreases-lines
decreases-lines l = length l.left
