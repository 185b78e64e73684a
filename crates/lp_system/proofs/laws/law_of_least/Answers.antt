use Rattle.lp_system.specs.SystemLaws.{none_grants}
use Rattle.lp_system.proofs.laws.law_of_least.Goals as goal

pub returns-clause-none : goal.returns-clause-none
returns-clause-none c = none_grants
