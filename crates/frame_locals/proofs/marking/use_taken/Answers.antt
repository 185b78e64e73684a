use Rattle.std.proofs.Common.{sym, ◌∙◌}
use Rattle.frame_locals.specs.MarkingLaws.{looks_nothing, taken_end}
use Rattle.frame_locals.proofs.marking.use_taken.Goals as goal

pub returns : goal.returns
returns c = sym (taken_end c.args.owned.now c.taken.marks c.taken.of.now c.taken.left.now c.in_default.len_below) ∙ c.taken.invariant
    ∙ sym (looks_nothing c.args.owned.now c.args.marks.now c.args.reads.now c.args.args.now)
