-- What is told of a job is determined by the job, its program and the arena.
use Rattle.script_plans.proofs.Alike.{same_line}
use Rattle.script_plans.proofs.laws.law_of_own_lines.Goals as goal

pub returns : goal.returns
returns c = same_line c.law_of_fates.ensures.job
