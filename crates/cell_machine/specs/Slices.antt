-- Cited by contracts.
-- A run that is paused after each of several slices, and goes on from its live words.
use Rattle.std.specs.Prelude.{ℕ, ◌+◌, List, [], ◌∷◌}
use Rattle.grail_code.specs.Code.{Code}
use Rattle.cell_machine.specs.State.{Machine}
use Rattle.cell_machine.specs.Loading.{steps}
use Rattle.cell_machine.specs.Dead.{live_machine}

abbrev pub in_slices : Code → (limit : ℕ) → (slices : List ℕ) → Machine → Machine
in_slices p limit [] m = m
in_slices p limit (k ∷ ks) m = in_slices p limit ks (live_machine p (steps p limit k m))

abbrev pub whole : List ℕ → ℕ
whole [] = 0
whole (k ∷ ks) = k + whole ks
