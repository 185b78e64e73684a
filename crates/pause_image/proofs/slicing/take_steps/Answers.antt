use Rattle.std.proofs.Common.{rules, arith}
use Rattle.pause_image.specs.SliceLaws.{over_ahead, one_ahead}
use Rattle.pause_image.proofs.slicing.take_steps.Goals as goal

pub returns-in-Some-clause-taken : goal.returns-in-Some-clause-taken
returns-in-Some-clause-taken c = over_ahead c.args.machine.now c.each.machine c.step.new.self c.each._step c.args.steps c.in-Some.ending c.each.invariant.ahead c.in-Some.ensures.next
    (λ n h k. absurd (omega (arith, h, k, c.each-test.true)))

pub each-preserved : goal.each-preserved
each-preserved c = record {
  ahead = one_ahead c.args.machine.now c.each.machine c.step.new.self c.each._step c.each.invariant.ahead c.in-None.ensures.next.0 c.in-None.ensures.code c.in-None.ensures.next.1;
  range = search rules;
  code = search rules;
}
