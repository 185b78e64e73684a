use Rattle.std.proofs.Common.{Some, length}
use Rattle.sliced_jobs.proofs.Ready.{ready_again, never_faulty}
use Rattle.sliced_jobs.proofs.job.resume_slice.Goals as goal

pub returns-in-Ok-clause-went : goal.returns-in-Ok-clause-went
returns-in-Ok-clause-went c p made r same = c.run_slice.ensures.went c.args.licence.now p made (Some c.args.image.now)
    (ready_again c.args.steps c.args.licence.now p made c.args.image.now c.in-Ok.machine (length c.args.span.cells) r c.in-Ok.ensures.answer.code same
    c.in-Ok.ensures.answer.keepable c.in-Ok.ensures.right)

pub unreachable-requires : goal.unreachable-requires
unreachable-requires c = never_faulty c.in-Err.field-0.fault c.in-Fault.field-0 (c.in-Err.ensures.right c.requires.right.s c.requires.right.right) c.in-Fault.is
