-- Cited by contracts.
-- Free lists whose cells have no owner, and where a list fails to be one.
use Rattle.std.specs.Prelude.{◌≡◌, ℕ, ◌+◌, ◌≤◌, Bool, List, [], ◌∷◌, length, slice_get, Some}
use Rattle.cell_span.specs.declared.cell.Cell.{Cell}
use Rattle.cell_machine.specs.Cells.{free_cell, no_cell}
use Rattle.cell_machine.specs.Stands.{IsFreeList, times}
use Rattle.cell_owners.specs.Marks.{owners, AreFresh, AreMarkedBy}

-- The free list runs from this head through these cells. They have no owner, and the list meets each of them once.
pub record IsOpenList (cells : List Cell) (marks : List Bool) (head : ℕ) (free : List ℕ) : Type 0 where
  pub runs : IsFreeList cells head free
  pub fresh : AreFresh marks free

-- no free list from this head does so
pub record HasNone (cells : List Cell) (marks : List Bool) (head : ℕ) : Type 0 where
  pub none : (free : List ℕ) → IsOpenList cells marks head free → ⊥

-- There is such a list, of so many cells. They have an owner now, beside those that had one before.
pub record IsFreeTaken (cells : List Cell) (head : ℕ) (before behind : List Bool) (count : ℕ) : Type 0 where
  pub free : List ℕ
  pub open_list : IsOpenList cells before head free
  pub many : count ≡ length free
  pub marks : AreMarkedBy before free behind

-- the list leads from this head through these free cells to this offset
abbrev pub LeadsTo : List Cell → (head : ℕ) → List ℕ → (at : ℕ) → Type 0
LeadsTo cells head [] at = head ≡ at
LeadsTo cells head (x ∷ xs) at = (head ≡ x) × ((next : ℕ) × (slice_get cells x ≡ Some (free_cell next)) × LeadsTo cells next xs at)

-- The first offset of the list that isn't one of its cells. The list leads to it, and doesn't end there. Before it
-- stand free cells without an owner, each once. If a free cell is at it, that one has an owner or stands before it.
pub record FailsAt (cells : List Cell) (marks : List Bool) (head : ℕ) (at : ℕ) : Type 0 where
  pub before : List ℕ
  pub leads : LeadsTo cells head before at
  pub fresh : AreFresh marks before
  pub goes_on : at ≡ no_cell → ⊥
  pub fails : (next : ℕ) → slice_get cells at ≡ Some (free_cell next) → 1 ≤ owners marks at + times at before
