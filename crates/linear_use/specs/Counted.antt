-- Private: words for functions of this crate.
-- How the spent variables are kept: their numbers in the order of use, and how often each stands there.
use Rattle.std.specs.Prelude.{◌≡◌, ℕ, ◌+◌, ◌==◌, if◌then◌else◌, List, [], ◌∷◌, slice_index}

abbrev pub times : ℕ → List ℕ → ℕ
times x [] = 0
times x (y ∷ ys) = (if y == x then 1 else 0) + times x ys

pub record AreCounted (counts log : List ℕ) : Type 0 where
  pub each : (x : ℕ) → slice_index counts x ≡ times x log
