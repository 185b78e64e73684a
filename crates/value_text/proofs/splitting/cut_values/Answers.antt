use Rattle.std.proofs.Common.{arith}
use Rattle.value_text.proofs.ValueSteps.{cuts_begin}
use Rattle.value_text.proofs.splitting.cut_values.Goals as goal

pub cut_value-requires-clause-value : goal.cut_value-requires-clause-value
cut_value-requires-clause-value c = cuts_begin c.args.items.now c.loop-value.rest.now c.args.count c.loop-value.values.items c.loop-value.invariant.cuts (omega (arith, c.loop-value.invariant.turn, c.loop-value-test.true))
