use Rattle.job_workers.proofs.Finishing.{all_ended}
use Rattle.job_workers.proofs.arena.serve_named.Goals as goal

pub returns-in-Ok-endings_in-clause-ended : goal.returns-in-Ok-endings_in-clause-ended
returns-in-Ok-endings_in-clause-ended g c = all_ended c.args.jobs.now c.in-Ok-serve_jobs.field-0.payloads.items c.in-Ok-endings_in.endings.items c.in-Ok-serve_jobs.ensures.answered c.in-Ok-endings_in.ensures
