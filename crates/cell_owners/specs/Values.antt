-- Cited by contracts.
-- What it is that a word stands for a value whose cells have no owner yet.
use Rattle.std.specs.Prelude.{◌≡◌, ℕ, ◌≤◌, Bool, List, [], Option, Some, None}
use Rattle.std.specs.Borrow.{Bor}
use Rattle.cell_span.specs.declared.cell.Cell.{Cell}
use Rattle.camelot_values.specs.Value.{Value}
use Rattle.camelot_values.specs.Kinds.{DataType}
use Rattle.camelot_values.specs.Typing.{Fits}
use Rattle.camelot_values.specs.declared.kinds.Kind.{Kind}
use Rattle.annotations.specs.Vectors.{Vector, at, potential}
use Rattle.cell_machine.specs.Stands.{Stands, footprint}
use Rattle.cell_owners.specs.Marks.{AreFresh, AreMarkedBy}

-- where there is no annotation, no node carries anything
abbrev pub vector_of : Option (Bor Vector) → Vector
vector_of None = []
vector_of (Some vector) = vector.now

-- The word stands for this value of the kind. Its cells have no owner, and it takes each of them once.
pub record IsOwnable (types : List DataType) (cells : List Cell) (marks : List Bool) (kind : Kind) (word : ℕ) (v : Value) : Type 0 where
  pub fits : Fits types kind v
  pub stands : Stands types cells v word
  pub fresh : AreFresh marks (footprint types cells v word)

-- There is such a value. Its nodes carry so many units together, and its cells have an owner now, beside those that had
-- one before.
pub record IsTaken (types : List DataType) (cells : List Cell) (vector : Vector) (kind : Kind) (word : ℕ) (before behind : List Bool) (units : ℕ) : Type 0 where
  pub value : Value
  pub ownable : IsOwnable types cells before kind word value
  pub carries : units ≡ potential types (at vector) value
  pub marks : AreMarkedBy before (footprint types cells value word) behind

-- what an answer says: the units of such a value, or that there is none
abbrev pub AnswerIs : List DataType → List Cell → Vector → Kind → ℕ → (before behind : List Bool) → Option ℕ → Type 0
AnswerIs types cells vector kind word before behind None = (v : Value) → IsOwnable types cells before kind word v → ⊥
AnswerIs types cells vector kind word before behind (Some units) = IsTaken types cells vector kind word before behind units

-- a number, where there is one, is at most so large
abbrev pub IsAtMost : ℕ → Option ℕ → Type 0
IsAtMost most None = Unit {0}
IsAtMost most (Some n) = n ≤ most
