use Rattle.std.proofs.Common.{◌-◌, sym, ap, ◌∙◌, subst, arith}
use Rattle.frame_locals.specs.Lending.{lends_at}
use Rattle.frame_locals.specs.Marking.{AreMarks}
use Rattle.frame_locals.specs.Places.{waits_at}
use Rattle.grail_code.specs.Code.{block_of, func_of}
use Rattle.machine_image.specs.Words.{frame_of}
use Rattle.pause_image.specs.Judging.{bound_locals, just_set, plain_bounds}
use Rattle.pause_image.proofs.Shaping.{waits_uncalled, waits_told}
use Rattle.pause_image.proofs.shapes.waits_in.Goals as goal

pub returns-in-None-clause-is : goal.returns-in-None-clause-is
returns-in-None-clause-is c = waits_uncalled c.args.licence.now (frame_of c.args.frame.now) (frame_of c.args.next.now) (func_of c.args.func.now) (block_of c.args.block.now) c.requires.func c.requires.block c.in-None.ensures

pub returns-clause-is : goal.returns-clause-is
returns-clause-is c = waits_told c.args.licence.now (frame_of c.args.frame.now) (frame_of c.args.next.now) (func_of c.args.func.now) (block_of c.args.block.now) c.in-Some.callee c.mark_waiting.new.marks c.width_of.result
    c.has_just.result c.requires.func c.requires.block (omega (arith, c.if-frame-eq0.false)) c.in-Some.ensures c.if-not-may_return.ensures
    (ap (λ p. lends_at p c.args.frame.now.func c.args.frame.now.block) (sym c.code-code.ensures) ∙ sym c.if-lends.ensures)
    (subst (λ p. AreMarks (waits_at p c.args.frame.now.func c.args.frame.now.block (c.args.frame.now.place - 1)) c.mark_waiting.new.marks) c.code-code.ensures c.mark_waiting.ensures.marks) c.width_of.ensures.is
    (omega (arith, c.width_of.ensures.few, c.mark_waiting.ensures.count, c.requires.many)) (c.has_just.ensures ∙ ap (λ bs. just_set c.mark_waiting.new.marks 0 c.width_of.result (bound_locals (plain_bounds bs))) c.deref.ensures.value)
