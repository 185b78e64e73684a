use Rattle.std.proofs.Common.{length, subst}
use Rattle.job_world.specs.Words.{plan_of}
use Rattle.sliced_jobs.specs.Ready.{HasRun, image_in}
use Rattle.sliced_jobs.proofs.Ready.{image_faultless}
use Rattle.sliced_jobs.proofs.job.slice_job.Goals as goal

pub resume_slice-requires-clause-right : goal.resume_slice-requires-clause-right
resume_slice-requires-clause-right c = image_faultless c.args.steps c.args.licence.now (plan_of c.args.plan.now) c.args.made (image_in c.args.image.now) c.in-Some.text.now
    (length c.args.span.cells) c.requires.run c.in-Some.ensures c.requires.size

pub returns-in-Some-clause-went : goal.returns-in-Some-clause-went
returns-in-Some-clause-went c = c.resume_slice.ensures.went (plan_of c.args.plan.now) c.args.made
    (subst (HasRun c.args.steps c.args.licence.now (plan_of c.args.plan.now) c.args.made) c.in-Some.ensures c.requires.run) c.requires.size
