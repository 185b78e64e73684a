use Rattle.lp_system.specs.SystemLaws.{certificate_solves}
use Rattle.lp_system.proofs.laws.law_of_solutions.Goals as goal

pub returns-clause-solves : goal.returns-clause-solves
returns-clause-solves c = certificate_solves
