use Rattle.std.proofs.Common.{subst, sym}
use Rattle.value_text.specs.Due.{first_due, Stops}
use Rattle.value_text.proofs.Following.{mark_step, mark_stop, mark_shorter}
use Rattle.value_text.proofs.reading.follow_mark.Goals as goal

pub returns-in-Ok-clause-shorter : goal.returns-in-Ok-clause-shorter
returns-in-Ok-clause-shorter c = mark_shorter c.args.mark c.args.rest.now c.in-Ok.after.now c.in-Ok.ensures

pub returns-in-Ok-clause-reading : goal.returns-in-Ok-clause-reading
returns-in-Ok-clause-reading c =
    λ xs ds r. mark_step c.args.types.now (first_due c.args.kinds.now) c.args.text.now xs c.args.mark ds c.args.rest.now c.in-Ok.after.now r c.in-Ok.ensures

pub returns-in-Err-clause-reading : goal.returns-in-Err-clause-reading
returns-in-Err-clause-reading c =
    λ xs ds r. subst (Stops c.args.types.now (first_due c.args.kinds.now) c.args.text.now) (sym c.saturating_sub.ensures)
    (mark_stop c.args.types.now (first_due c.args.kinds.now) c.args.text.now xs c.args.mark ds c.args.rest.now c.in-Err.left c.requires.named r c.in-Err.ensures.0 c.in-Err.ensures.1)
