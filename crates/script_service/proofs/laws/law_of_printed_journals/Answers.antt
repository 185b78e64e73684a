use Rattle.script_service.proofs.OneJournal.{printed_once}
use Rattle.script_service.proofs.laws.law_of_printed_journals.Goals as goal

pub returns-clause-one : goal.returns-clause-one
returns-clause-one c = printed_once c.law_of_fates.ensures.programs c.law_of_fates.ensures.jobs

pub returns-clause-left : goal.returns-clause-left
returns-clause-left c = λ input output arena r s. printed_once c.law_of_fates.ensures.programs c.law_of_fates.ensures.jobs input output r (record { service = s.service; served = s.served; is = s.is })
