-- Private: words for functions of this crate.
-- One search among the pairs of a vector, two vectors walked side by side, and the nodes of a value one by one.
use Rattle.std.specs.Prelude.{◌≡◌, ℕ, ◌+◌, ◌<◌, ◌==◌, ◌&&◌, nat_lt, if◌then◌else◌, Bool, List, [], ◌∷◌, length, slice_index_or, Option, Some, None, Result, Ok, Err}
use Rattle.camelot_values.specs.Kinds.{DataType}
use Rattle.camelot_values.specs.Heap.{reached}
use Rattle.camelot_values.specs.Lists.{is_among}
use Rattle.camelot_values.specs.declared.kinds.Kind.{Kind}
use Rattle.camelot_values.specs.declared.value.Item.{Item}
use Rattle.camelot_values.specs.declared.value.Item.TheVariants as item
use Rattle.annotations.specs.Vectors.{Vector, at, node_units}

-- the constructor's pair stands at this place, or the constructor has no units
abbrev pub IsFound : Vector → ℕ → Result ℕ ℕ → Type 0
IsFound pairs con (Ok place) = (place < length pairs) × (let p = slice_index_or pairs place (0, 0) in at pairs con ≡ p.1)
IsFound pairs con (Err place) = at pairs con ≡ 0

-- without the constructors in front that are below this one
abbrev pub pairs_from : ℕ → Vector → Vector
pairs_from con [] = []
pairs_from con (p ∷ ps) = if nat_lt p.0 con then pairs_from con ps else p ∷ ps

-- the units of the constructor, where it stands in front
abbrev pub in_front : ℕ → Vector → ℕ
in_front con [] = 0
in_front con (p ∷ ps) = if p.0 == con then p.1 else 0

-- The first constructor on the right that is wanted and has fewer units on the left, both walked once. What stands on
-- the left in front of a constructor of the right isn't looked at again.
unfoldable pub first_below : (ℕ → Bool) → Vector → Vector → Option ℕ
first_below wanted left [] = None
first_below wanted left (p ∷ ps) = if nat_lt (in_front p.0 (pairs_from p.0 left)) p.1 && wanted p.0 then Some p.0 else first_below wanted (pairs_from p.0 left) ps

-- the kind reaches the constructor
abbrev pub wants : List DataType → Kind → ℕ → Bool
wants types kind con = is_among (reached types kind) con

-- what a node carries, and what all these carry
abbrev pub item_units : List DataType → (ℕ → ℕ) → Item → ℕ
item_units types units (item.Con n c) = node_units types units c
item_units types units x = 0

abbrev pub all_units : List DataType → (ℕ → ℕ) → List Item → ℕ
all_units types units [] = 0
all_units types units (x ∷ xs) = item_units types units x + all_units types units xs
