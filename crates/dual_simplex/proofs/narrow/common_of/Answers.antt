use Rattle.std.proofs.Common.{arith}
use Rattle.dual_simplex.proofs.Divisors.{greatest_from_zero, greatest_from_mod}
use Rattle.dual_simplex.proofs.narrow.common_of.Goals as goal

pub loop-y-preserved : goal.loop-y-preserved
loop-y-preserved c g h = c.loop-y.invariant g (greatest_from_mod _ _ g h)

pub returns : goal.returns
returns c = c.loop-y.invariant _ (greatest_from_zero _ _ (omega arith))
