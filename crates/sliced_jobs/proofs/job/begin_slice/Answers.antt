use Rattle.std.proofs.Common.{None, length}
use Rattle.job_world.specs.Words.{plan_of}
use Rattle.sliced_jobs.proofs.Ready.{ready_first}
use Rattle.sliced_jobs.proofs.job.begin_slice.Goals as goal

pub returns-clause-went : goal.returns-clause-went
returns-clause-went c made r same = c.run_slice.ensures.went c.args.licence.now (plan_of c.args.plan.now) made None
    (ready_first c.args.steps c.args.licence.now (plan_of c.args.plan.now) made c.load-machine.result c.deref.result.now (length c.args.span.cells) r c.load-machine.ensures.code c.deref.ensures.value same c.load-machine.ensures.begun)
