use Rattle.std.proofs.Common.{ap}
use Rattle.run_reports.specs.Report.{job_text}
use Rattle.script_service.proofs.laws.law_of_own_texts.Goals as goal

pub returns : goal.returns
returns c = λ one other job first second agree a b. ap (job_text job.name) (c.law_of_own_lines.ensures one other job first second agree a b)
