use Rattle.std.proofs.Common.{◌-◌, subst, arith}
use Rattle.value_text.specs.Due.{Reading, first_due}
use Rattle.value_text.specs.Later.{later_due}
use Rattle.value_text.proofs.LaterSteps.{less_closed}
use Rattle.value_text.proofs.reading.close.Goals as goal

pub returns-in-Err-clause-reading : goal.returns-in-Err-clause-reading
returns-in-Err-clause-reading c =
    c.in-Err.ensures.reading c.args.items.now.items (later_due c.args.later.now.inner.now (c.closed.closed - 1) c.args.later.now.frames.items c.args.later.now.others.now)
    (subst (λ d. Reading c.args.types.now (first_due c.args.kinds.now) c.args.text.now c.args.items.now.items d c.closed.after.now)
    (less_closed c.args.later.now.inner.now c.closed.closed c.args.later.now.frames.items c.args.later.now.others.now c.closed.invariant.inner c.closed-test.true) c.closed.invariant.reading)

pub closed-preserved : goal.closed-preserved
closed-preserved c = record {
  reading = c.in-Ok.ensures.reading c.args.items.now.items (later_due c.args.later.now.inner.now (c.closed.closed - 1) c.args.later.now.frames.items c.args.later.now.others.now)
      (subst (λ d. Reading c.args.types.now (first_due c.args.kinds.now) c.args.text.now c.args.items.now.items d c.closed.after.now)
      (less_closed c.args.later.now.inner.now c.closed.closed c.args.later.now.frames.items c.args.later.now.others.now c.closed.invariant.inner c.closed-test.true) c.closed.invariant.reading);
  inner = c.closed.invariant.inner;
  shorter = omega (arith, c.in-Ok.ensures.shorter, c.closed.invariant.shorter);
}
