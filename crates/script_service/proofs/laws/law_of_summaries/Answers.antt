use Rattle.script_service.proofs.OneSummary.{one_summary}
use Rattle.script_service.proofs.laws.law_of_summaries.Goals as goal

pub returns : goal.returns
returns c = one_summary c.law_of_fates.ensures.jobs
