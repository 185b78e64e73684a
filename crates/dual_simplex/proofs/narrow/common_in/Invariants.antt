use Rattle.std.proofs.Common.{ℕ, ◌<◌, ◌^◌, drop}
use Rattle.dual_simplex.specs.Multiples.{SharesWith}
use Rattle.dual_simplex.proofs.narrow.common_in.Given as goal

abbrev pub invariant-loop-place : goal.invariant-loop-place
invariant-loop-place l = record {
  positive : 0 < l.shared;
  small : l.shared < 2 ^ 63;
  so_far : (k : ℕ) → SharesWith l.shared (drop l.place l.numbers) k → SharesWith l.start l.numbers k;
}
