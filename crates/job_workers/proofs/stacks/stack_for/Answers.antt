use Rattle.std.proofs.Common.{◌∙◌, sym}
use Rattle.job_workers.proofs.Planned.{kept_fits}
use Rattle.job_workers.proofs.stacks.stack_for.Goals as goal

pub returns-then-licence-number : goal.returns-then-licence-number
returns-then-licence-number g c = kept_fits g.N.JobName.planned.licences c.in-Some.kept c.args.number c.args.licence.now c.stack.result c.stack.ensures (sym c.licence.ensures ∙ c.if-licence-number.true) c.requires.is
