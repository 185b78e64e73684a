-- Cited by contracts.
-- What the laws of fuel say of a run.
use Rattle.std.specs.Prelude.{◌≡◌, ℕ, ◌≤◌}
use Rattle.camelot_values.specs.Outcome.{Outcome, Fuel}

-- the run stopped on fuel once it had entered so many functions, with no higher a peak than this
abbrev pub StopsOnFuel : {A : Type 0} → ℕ → ℕ → Outcome A → Type 0
StopsOnFuel calls most (Fuel c peak) = (c ≡ calls) × (peak ≤ most)
StopsOnFuel calls most o = ⊥
