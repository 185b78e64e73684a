use Rattle.script_service.proofs.OneReport.{one_report}
use Rattle.script_service.proofs.laws.law_of_reports.Goals as goal

pub returns : goal.returns
returns c = one_report c.law_of_fates.ensures.programs c.law_of_fates.ensures.jobs
