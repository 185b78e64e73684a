-- Cited by contracts.
-- Lists of numbers.
use Rattle.std.specs.Prelude.{ℕ, ◌<◌, ◌==◌, Bool, List, [], ◌∷◌}
use Rattle.std.specs.List.{list_any}

-- each is less than the next
abbrev pub Ascend : List ℕ → Type 0
Ascend [] = Unit {0}
Ascend (x ∷ []) = Unit {0}
Ascend (x ∷ y ∷ xs) = (x < y) × Ascend (y ∷ xs)

-- the number is among these
abbrev pub is_among : List ℕ → ℕ → Bool
is_among xs x = list_any (λ y. y == x) xs
