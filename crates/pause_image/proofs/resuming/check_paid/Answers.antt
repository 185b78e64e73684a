use Rattle.std.proofs.Common.{rules, ◌/◌, refl, arith}
use Rattle.cell_machine.specs.Saved.{saved_of}
use Rattle.pause_image.proofs.Verdicts.{short_is, net_is, right_is}
use Rattle.pause_image.proofs.resuming.check_paid.Goals as goal

pub returns-then-need-free : goal.returns-then-need-free
returns-then-need-free c = λ text sized owned.
    short_is c.args.licence.now text c.args.len c.unit_of.result (c.args.owned.now.asked / c.unit_of.result) (saved_of c.args.state.now) c.args.owned.now c.unit_of.ensures.is refl (omega (arith, c.if-need-free.true)) sized owned

pub returns-then-not-is_within : goal.returns-then-not-is_within
returns-then-not-is_within c = λ text sized owned.
    net_is c.args.licence.now text c.args.len c.unit_of.result (c.args.owned.now.asked / c.unit_of.result) _ (saved_of c.args.state.now) c.args.owned.now c.unit_of.ensures.is refl (omega (arith, c.if-need-free.false))
    c.if-not-is_within.ensures (search rules) sized owned

pub returns : goal.returns
returns c = λ text sized owned.
    right_is c.args.licence.now text c.args.len c.unit_of.result (c.args.owned.now.asked / c.unit_of.result) _ (saved_of c.args.state.now) c.args.owned.now c.unit_of.ensures.is refl (omega (arith, c.if-need-free.false))
    c.if-not-is_within.ensures (search rules) sized owned
