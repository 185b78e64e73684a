use Rattle.std.proofs.Common.{length, refl, sym, subst}
use Rattle.std.specs.Prelude.{nat_eq}
use Rattle.text_lines.specs.FrontLaws.{line_shorter}
use Rattle.grail_bundle.specs.Answers.{HasCause}
use Rattle.grail_bundle.proofs.Stopping.{no_end, does_fit, not_fits, closed_stop, early_stop, line_stop, line_next}
use Rattle.grail_bundle.proofs.reading.read_lines.Goals as goal

pub returns-then-not-may_follow : goal.returns-then-not-may_follow
returns-then-not-may_follow c =
    subst (HasCause c.args.text.now) (sym c.fault_at.ensures)
    (closed_stop c.args.text.now c.lines.number c.lines.may_follow c.lines.code.items c.lines.rest.now c.lines.invariant c.if-not-may_follow.true
    (no_end c.deref.result.now c.lines.code.items c.lines.rest.now c.deref.ensures.value c.lines-test.ensures))

pub returns-in_default : goal.returns-in_default
returns-in_default c =
    subst (HasCause c.args.text.now) (sym c.fault_at-in_default.ensures)
    (early_stop c.args.text.now c.lines.number c.lines.may_follow c.lines.code.items c.lines.rest.now c.lines.invariant
    (no_end c.deref.result.now c.lines.code.items c.lines.rest.now c.deref.ensures.value c.lines-test.ensures) c.in_default.ensures)

pub returns-then-not-fits : goal.returns-then-not-fits
returns-then-not-fits c =
    subst (HasCause c.args.text.now) (sym c.fault_at-then-not-fits.ensures)
    (line_stop c.args.text.now c.lines.number c.lines.may_follow c.lines.code.items c.lines.rest.now c.in-Some-next_line.line.now c.in-Some-next_line.behind.now c.lines.invariant
    (no_end c.deref.result.now c.lines.code.items c.lines.rest.now c.deref.ensures.value c.lines-test.ensures) c.in-Some-next_line.ensures
    (not_fits c.in_ok-fits.fits c.lines.code.items c.push_line.new.code.items c.in-Some-next_line.line.now c.in_ok-fits.ensures c.if-not-fits.true))

pub lines-preserved : goal.lines-preserved
lines-preserved c =
    line_next c.args.text.now c.lines.number c.lines.may_follow (nat_eq (length c.in-Some-next_line.line.now) 64) c.lines.code.items c.push_line.new.code.items c.lines.rest.now c.in-Some-next_line.line.now c.in-Some-next_line.behind.now
    c.lines.invariant c.if-not-may_follow.false c.in-Some-next_line.ensures
    (does_fit c.in_ok-fits.fits c.lines.code.items c.push_line.new.code.items c.in-Some-next_line.line.now c.in_ok-fits.ensures c.if-not-fits.false) refl

pub lines-smaller : goal.lines-smaller
lines-smaller c = line_shorter c.lines.rest.now c.in-Some-next_line.line.now c.in-Some-next_line.behind.now c.in-Some-next_line.ensures
