use Rattle.std.proofs.Common.{length, refl, subst}
use Rattle.job_world.specs.Plans.{Planned, job_run}
use Rattle.job_world.specs.Words.{plan_of}
use Rattle.job_workers.proofs.Planned.{due_now, lease_now, plan_now, room_now, meant_now, served_now, stack_now, licence_now}
use Rattle.job_workers.proofs.serving.serve_lease.Goals as goal

pub run_plan-ran-requires-clause-plan : goal.run_plan-ran-requires-clause-plan
run_plan-ran-requires-clause-plan g c = plan_now c.args.jobs.now c.job-job.result c.args.lease (plan_of c.plan-plan.result.now) c.licence-licence.result.now
    (lease_now c.args.jobs.now c.job-job.result c.args.lease (plan_of c.plan-plan.result.now) c.licence-licence.result.now c.kept.ensures c.job-job.ensures (due_now c.args.jobs.now g.N.JobName.planned g.N.DeskName.sizes c.args.lease.job (length c.args.lease.range.cells) c.requires.plans c.requires.sizes c.kept-2.ensures.size).1 c.plan-plan.ensures.is c.licence-licence.ensures.is)
    c.open-span.result.0 c.plan-plan.result.now.args.items c.open-span.ensures.span refl

pub run_plan-ran-requires-clause-room : goal.run_plan-ran-requires-clause-room
run_plan-ran-requires-clause-room g c = room_now c.args.jobs.now c.job-job.result c.args.lease (plan_of c.plan-plan.result.now) c.licence-licence.result.now
    (lease_now c.args.jobs.now c.job-job.result c.args.lease (plan_of c.plan-plan.result.now) c.licence-licence.result.now c.kept.ensures c.job-job.ensures (due_now c.args.jobs.now g.N.JobName.planned g.N.DeskName.sizes c.args.lease.job (length c.args.lease.range.cells) c.requires.plans c.requires.sizes c.kept-2.ensures.size).1 c.plan-plan.ensures.is c.licence-licence.ensures.is)
    g.K.Kept.asks c.open-span.result.0 c.in-Ok.room c.open-span.ensures.span c.in-Ok.ensures.room

pub invariant_of-answer : goal.invariant_of-answer
invariant_of-answer g c = record {
  meant = subst (λ (ps : Planned). g.K.Kept.keeps (job_run ps c.job-job.result) c.run_plan-ran.result.kept) c.requires.plans
      (meant_now c.args.jobs.now c.job-job.result c.args.lease (plan_of c.plan-plan.result.now) c.licence-licence.result.now
      (lease_now c.args.jobs.now c.job-job.result c.args.lease (plan_of c.plan-plan.result.now) c.licence-licence.result.now c.kept.ensures c.job-job.ensures (due_now c.args.jobs.now g.N.JobName.planned g.N.DeskName.sizes c.args.lease.job (length c.args.lease.range.cells) c.requires.plans c.requires.sizes c.kept-2.ensures.size).1 c.plan-plan.ensures.is c.licence-licence.ensures.is)
      g.K.Kept.keeps c.plan-plan.result.now.args.items c.run_plan-ran.result.kept refl c.run_plan-ran.ensures.kept);
}

pub make_ready-requires : goal.make_ready-requires
make_ready-requires g c = record {
  is = licence_now c.args.jobs.now g.N.JobName.planned c.job-job.result c.args.lease (plan_of c.plan-plan.result.now) c.licence-licence.result.now
      (lease_now c.args.jobs.now c.job-job.result c.args.lease (plan_of c.plan-plan.result.now) c.licence-licence.result.now c.kept.ensures c.job-job.ensures (due_now c.args.jobs.now g.N.JobName.planned g.N.DeskName.sizes c.args.lease.job (length c.args.lease.range.cells) c.requires.plans c.requires.sizes c.kept-2.ensures.size).1 c.plan-plan.ensures.is c.licence-licence.ensures.is)
      c.requires.plans;
}

pub new-kept-requires : goal.new-kept-requires
new-kept-requires g c = stack_now c.args.jobs.now g.N.JobName.planned c.job-job.result c.args.lease (plan_of c.plan-plan.result.now) c.licence-licence.result.now
    (lease_now c.args.jobs.now c.job-job.result c.args.lease (plan_of c.plan-plan.result.now) c.licence-licence.result.now c.kept.ensures c.job-job.ensures (due_now c.args.jobs.now g.N.JobName.planned g.N.DeskName.sizes c.args.lease.job (length c.args.lease.range.cells) c.requires.plans c.requires.sizes c.kept-2.ensures.size).1 c.plan-plan.ensures.is c.licence-licence.ensures.is)
    c.run_plan-ran.result.stack c.requires.plans c.run_plan-ran.ensures.stack

pub returns : goal.returns
returns g c = served_now c.args.jobs.now c.job-job.result c.args.lease (plan_of c.plan-plan.result.now) c.licence-licence.result.now
    (lease_now c.args.jobs.now c.job-job.result c.args.lease (plan_of c.plan-plan.result.now) c.licence-licence.result.now c.kept.ensures c.job-job.ensures (due_now c.args.jobs.now g.N.JobName.planned g.N.DeskName.sizes c.args.lease.job (length c.args.lease.range.cells) c.requires.plans c.requires.sizes c.kept-2.ensures.size).1 c.plan-plan.ensures.is c.licence-licence.ensures.is)
    c.open-span.result.0 c.open-span.result.1 c.run_plan-ran.result.span c.plan-plan.result.now.args.items _ _ c.job-job.ensures c.open-span.ensures.span c.open-span.ensures.claim refl c.run_plan-ran.ensures.range
    c.run_plan-ran.ensures.cells c.close.ensures refl
