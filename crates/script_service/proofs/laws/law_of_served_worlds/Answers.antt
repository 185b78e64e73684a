use Rattle.script_service.proofs.OneWorld.{of_world}
use Rattle.script_service.proofs.laws.law_of_served_worlds.Goals as goal

pub returns : goal.returns
returns c = of_world c.law_of_calls.ensures.plans
