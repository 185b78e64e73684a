-- Cited by contracts.
-- Functions by their names.
use Rattle.std.specs.Prelude.{◌≡◌, ℕ, ◌<◌, List, slice_get, Some}
use Rattle.std.specs.Option.{option_map}
use Rattle.grail_code.specs.Code.{Code}

-- the function of this number has this name
abbrev pub HasName : Code → ℕ → List ℕ → Type 0
HasName p number name = option_map (λ f. f.name) (slice_get p.funcs number) ≡ Some name

-- it has, and none before it
pub record IsFirstNamed (p : Code) (number : ℕ) (name : List ℕ) : Type 0 where
  pub named : HasName p number name
  pub first : (earlier : ℕ) → earlier < number → HasName p earlier name → ⊥
