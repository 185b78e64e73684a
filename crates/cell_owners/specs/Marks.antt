-- Cited by contracts.
-- Marks: each cell of a range has one, which says whether the cell has an owner.
use Rattle.std.specs.Prelude.{◌≡◌, ℕ, suc, ◌+◌, ◌≤◌, Bool, true, false, if◌then◌else◌, List, [], ◌∷◌, slice_index_or}
use Rattle.cell_machine.specs.Stands.{times}

-- the cell at this offset has an owner, or there is none at it
abbrev pub is_marked : List Bool → ℕ → Bool
is_marked marks at = slice_index_or marks at true

-- the same as a number: 1 where it is so, else 0
abbrev pub owners : List Bool → ℕ → ℕ
owners marks at = if is_marked marks at then 1 else 0

-- these are offsets of cells that have no owner, and none stands twice among them
abbrev pub AreFresh : List Bool → List ℕ → Type 0
AreFresh marks offsets = (at : ℕ) → owners marks at + times at offsets ≤ 1

-- behind it the cells at these offsets have an owner too, and no others
abbrev pub AreMarkedBy : (before : List Bool) → (offsets : List ℕ) → (behind : List Bool) → Type 0
AreMarkedBy before offsets behind = (at : ℕ) → owners behind at ≡ owners before at + times at offsets

-- how many cells have no owner
abbrev pub open_in : List Bool → ℕ
open_in [] = 0
open_in (true ∷ marks) = open_in marks
open_in (false ∷ marks) = suc (open_in marks)
