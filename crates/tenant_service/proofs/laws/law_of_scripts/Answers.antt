use Rattle.tenant_service.specs.ReplyLaws.{programs_alone, fates_alone, lines_alone}
use Rattle.tenant_service.proofs.laws.law_of_scripts.Goals as goal

pub returns-clause-programs : goal.returns-clause-programs
returns-clause-programs c = programs_alone

pub returns-clause-fates : goal.returns-clause-fates
returns-clause-fates c = fates_alone

pub returns-clause-lines : goal.returns-clause-lines
returns-clause-lines c = lines_alone
