use Rattle.std.proofs.Common.{sym, subst}
use Rattle.sliced_jobs.specs.Ready.{WentOn}
use Rattle.sliced_jobs.proofs.Ready.{run_over, run_paused}
use Rattle.sliced_jobs.proofs.job.run_slice.Goals as goal

pub returns-in-Some-clause-went : goal.returns-in-Some-clause-went
returns-in-Some-clause-went c l p made image r = subst (WentOn c.args.steps l p made) (sym c.give_up.ensures.went)
    (run_over c.args.steps l p made image c.args.machine c.slice.new.machine c.in-Some.ending c.requires.running r c.in-Some.ensures.sliced)

pub returns-in-Ok-clause-went : goal.returns-in-Ok-clause-went
returns-in-Ok-clause-went c l p made image r = run_paused c.args.steps l p made image c.args.machine c.slice.new.machine c.in-Ok.field-0 c.requires.some r
    c.in-None.ensures.code c.in-None.ensures.sliced c.in-Ok.ensures
