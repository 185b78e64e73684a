use Rattle.std.proofs.Common.{refl}
use Rattle.script_plans.proofs.planning.plan_call.Goals as goal

pub returns-in-Ok : goal.returns-in-Ok
returns-in-Ok c = λ l at. let h = c.in-Ok.ensures.planned l at in (h.0, refl, h.1, c.in-Ok.ensures.refused, h.2)
