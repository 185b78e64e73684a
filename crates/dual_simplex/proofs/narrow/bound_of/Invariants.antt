use Rattle.std.proofs.Common.{◌≤◌, take, All, unsigned_abs}
use Rattle.dual_simplex.proofs.narrow.bound_of.Given as goal

abbrev pub invariant-loop-number : goal.invariant-loop-number
invariant-loop-number l = All (λ x. unsigned_abs x ≤ l.bits) (take l.number-index l.numbers)
