use Rattle.std.proofs.Common.{rules, sym, ◌∙◌}
use Rattle.pause_image.specs.SliceLaws.{over_ahead, least_on, fewer_left, lent_on}
use Rattle.pause_image.proofs.slicing.step_on.Goals as goal

pub returns-in-Some-clause-gone : goal.returns-in-Some-clause-gone
returns-in-Some-clause-gone c = over_ahead c.args.machine.now c.each.machine c.step.new.self c.each.invariant.lent.count 0 c.in-Some.ending c.each.invariant.lent.ahead c.in-Some.ensures.next
    (λ n h k. least_on c.args.machine.now c.each.machine c.args.lender c.each.invariant.lent (sym c.still_lends.ensures.lends ∙ c.each-test.true) n k)

pub each-smaller : goal.each-smaller
each-smaller c = fewer_left c.each.machine c.step.new.self c.each.invariant.lent.ahead.running c.in-None.ensures.next.1

pub each-preserved : goal.each-preserved
each-preserved c = record {
  lent = lent_on c.args.machine.now c.each.machine c.step.new.self c.args.lender c.each.invariant.lent (sym c.still_lends.ensures.lends ∙ c.each-test.true) (c.still_lends.ensures.there c.each-test.true)
      (c.still_lends.ensures.runs c.each-test.true) c.in-None.ensures.next.0 c.in-None.ensures.code c.in-None.ensures.next.1;
  range = search rules;
  code = search rules;
}
