use Rattle.std.proofs.Common.{ap, ◌∙◌}
use Rattle.std.specs.Prelude.{slice_get}
use Rattle.job_workers.proofs.stacks.SpareStack.stack.Goals as goal

pub returns : goal.returns
returns g c l at = c.self.invariant l (ap (slice_get g.N.JobName.planned.licences) c.self.view_is ∙ at)
