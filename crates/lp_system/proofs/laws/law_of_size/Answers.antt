use Rattle.lp_system.specs.SystemLaws.{system_proper}
use Rattle.lp_system.proofs.laws.law_of_size.Goals as goal

pub returns : goal.returns
returns c = system_proper
