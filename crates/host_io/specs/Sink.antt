-- Cited by contracts.
-- What a sink was told, where it tells which bytes it was given.
use Rattle.std.specs.Prelude.{◌≡◌, ℕ, ◌<◌, List, ◌++◌, length, take, Option, Some, None, ⊤}

-- The sink was told these bytes after what it was told before. A sink may stop telling; then nothing is
-- said of it from there on.
abbrev pub Tells : Option (List ℕ) → Option (List ℕ) → List ℕ → Type 0
Tells told None bytes = ⊤
Tells None (Some ys) bytes = ⊥
Tells (Some xs) (Some ys) bytes = ys ≡ xs ++ bytes

-- The sink was told so many bytes from the front of these, fewer than all of them, and no others.
pub record TellsFront (told told' : Option (List ℕ)) (bytes : List ℕ) : Type 0 where
  pub count : ℕ
  pub within : count < length bytes
  pub front : Tells told told' (take count bytes)
