use Rattle.std.proofs.Common.{arith}
use Rattle.dual_simplex.proofs.Scans.{price_turn}
use Rattle.dual_simplex.proofs.answer.price_of.Goals as goal

pub loop-place-preserved : goal.loop-place-preserved
loop-place-preserved c =
    price_turn c.args.slack c.args.cost.now.divisor c.args.columns.now c.args.cost.now.factors.items c.loop-place.place _ c.loop-place-test.true (omega arith) c.if-columns-place.false c.loop-place.invariant
