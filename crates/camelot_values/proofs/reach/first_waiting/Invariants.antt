use Rattle.std.proofs.Common.{◌≡◌, ℕ, ◌<◌}
use Rattle.std.specs.Prelude.{slice_get, Some}
use Rattle.camelot_values.specs.declared.reach.Mark.TheVariants.{Waiting}
use Rattle.camelot_values.proofs.reach.first_waiting.Given as goal

abbrev pub invariant-loop-place : goal.invariant-loop-place
invariant-loop-place l = (k : ℕ) → k < l.place → slice_get l.marks k ≡ Some Waiting → ⊥
