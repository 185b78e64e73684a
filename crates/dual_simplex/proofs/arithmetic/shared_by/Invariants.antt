use Rattle.std.proofs.Common.{ℕ, ◌<◌, drop}
use Rattle.dual_simplex.specs.Equation.{mixed_all}
use Rattle.dual_simplex.specs.Multiples.{SharesWith}
use Rattle.dual_simplex.proofs.arithmetic.shared_by.Given as goal

abbrev pub invariant-loop-place : goal.invariant-loop-place
invariant-loop-place l = record {
  positive : 0 < l.shared;
  so_far : (k : ℕ) → SharesWith l.shared (mixed_all l.scale l.times (drop l.place l.owns) (drop l.place l.others)) k
      → SharesWith l.start (mixed_all l.scale l.times l.owns l.others) k;
}
