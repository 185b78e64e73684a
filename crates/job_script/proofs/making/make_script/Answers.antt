use Rattle.job_script.proofs.MadeRight.{right}
use Rattle.job_script.proofs.making.make_script.Goals as goal

pub returns-clause-right : goal.returns-clause-right
returns-clause-right c =
    right c.args.count c.args.workers c.in_ok-items.items.items c.push.new.self.items c.program_entry.result c.push_jobs.new.items.items c.requires.count c.requires.workers
    c.in_ok-items.ensures.items c.in_ok-push.ensures.items c.program_entry.ensures c.in_ok-push_jobs.ensures
