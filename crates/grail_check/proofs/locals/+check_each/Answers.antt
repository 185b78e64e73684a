use Rattle.grail_check.proofs.LentLaws.{none_taken}
use Rattle.grail_check.proofs.locals.+check_each.Goals as goal

pub returns-in-empty-default-clause-marks : goal.returns-in-empty-default-clause-marks
returns-in-empty-default-clause-marks t c = none_taken c.args.locals.now c.args.marks.now c.args.reads.now c.args.arguments.now c.in-empty-default.len_below
