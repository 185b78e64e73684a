-- Cited by contracts.
-- What cells a hole holds: those that were filed with the last lease that went back over them.
use Rattle.std.specs.Prelude.{◌≡◌, ℕ, ◌+◌, ◌-◌, nat_le, nat_lt, ◌&&◌, if◌then◌else◌, List, [], ◌∷◌, slice_get, Option, Some, None}
use Rattle.cell_span.specs.declared.cell.Cell.{Cell}
use Rattle.cell_span.specs.Range.{Range, blank}
use Rattle.lease_desk.specs.declared.event.Event.{Event}
use Rattle.lease_desk.specs.declared.event.Event.TheVariants as event

-- the cells that a job filed, where it filed any; by the number of the job
abbrev pub FiledCells : Type 0
FiledCells = ℕ → Option (List Cell)

abbrev pub cell_of : Option (List Cell) → ℕ → Option Cell
cell_of None at = None
cell_of (Some cells) at = slice_get cells at

-- the cell of this index behind an event, where it was this one before, if it is known
abbrev pub cell_after : FiledCells → ℕ → Option Cell → Event → Option Cell
cell_after filed index known (event.Took job first size) = known
cell_after filed index known (event.Full job need largest) = known
cell_after filed index known (event.Gave job first size) =
    if nat_le first index && nat_lt index (first + size) then cell_of (filed job) (index - first) else known

abbrev pub cell_behind : FiledCells → ℕ → Option Cell → List Event → Option Cell
cell_behind filed index known [] = known
cell_behind filed index known (e ∷ es) = cell_behind filed index (cell_after filed index known e) es

-- The cell of this index that a hole holds behind a journal: the one that was filed with the last lease that went back
-- over it, and a blank one where none did. Nothing is known where that lease was withdrawn.
unfoldable pub filed_cell : FiledCells → List Event → ℕ → Option Cell
filed_cell filed journal index = cell_behind filed index (Some blank) journal

-- the cell is the one that is known, where one is
abbrev pub IsKnownAs : Option Cell → Cell → Type 0
IsKnownAs None cell = Unit {0}
IsKnownAs (Some known) cell = cell ≡ known

-- each cell of the hole is the one that was filed
abbrev pub HoldsFiled : FiledCells → List Event → Range → Type 0
HoldsFiled filed journal h = (at : ℕ) (cell : Cell) → slice_get h.cells at ≡ Some cell → IsKnownAs (filed_cell filed journal (h.first + at)) cell
