use Rattle.std.proofs.Common.{ℕ}
use Rattle.dual_simplex.specs.Multiples.{IsGreatestCommon}
use Rattle.dual_simplex.proofs.narrow.common_of.Given as goal

abbrev pub invariant-loop-y : goal.invariant-loop-y
invariant-loop-y l = (g : ℕ) → IsGreatestCommon l.x l.y g → IsGreatestCommon l.fn.a l.fn.b g

abbrev pub decreases-loop-y : goal.decreases-loop-y
decreases-loop-y l = l.y
