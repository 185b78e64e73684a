use Rattle.tenant_service.proofs.Finishing.{spare_fits}
use Rattle.tenant_service.proofs.running.stack_for.Goals as goal

pub returns-then-of-number : goal.returns-then-of-number
returns-then-of-number c = spare_fits c.args.licences.now c.args.spare c.in-Some.kept c.args.number c.args.licence.now c.requires.spare c.in-Some.is c.if-of-number.true c.requires.is
