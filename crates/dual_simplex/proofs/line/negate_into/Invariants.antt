use Rattle.std.proofs.Common.{◌≡◌, drop, take, ◌++◌, map}
use Rattle.std.specs.Prelude.{neg_ℤ}
use Rattle.dual_simplex.proofs.line.negate_into.Given as goal

abbrev pub invariant-loop-place : goal.invariant-loop-place
invariant-loop-place l = take l.place l.into ++ map neg_ℤ (drop l.place l.from) ≡ map neg_ℤ l.from
