-- Cited by contracts.
-- What is found in a frame: the values that the words of its ready locals stand for.
use Rattle.std.specs.Prelude.{◌≡◌, ℕ, zero, suc, ◌+◌, List, [], ◌∷◌, ◌++◌, Option, Some, None, IsSomeAnd}
use Rattle.cell_span.specs.declared.cell.Cell.{Cell}
use Rattle.camelot_values.specs.Value.{Value}
use Rattle.camelot_values.specs.Kinds.{DataType}
use Rattle.camelot_values.specs.Typing.{Fits}
use Rattle.grail_blocks.specs.States as states
use Rattle.grail_blocks.specs.States.{Status, Unbound, Ready, Spent}
use Rattle.grail_code.specs.Code.{Func}
use Rattle.grail_code.specs.WellFormed.{kind_of}
use Rattle.annotations.specs.Vectors.{potential}
use Rattle.licence.specs.Books.{Carried}
use Rattle.cell_machine.specs.Stands.{Stands, footprint}

-- of a word: a value of its local's kind where the local is ready, and else none
abbrev pub FoundOne : List DataType → List Cell → Func → Status → (local word : ℕ) → Option Value → Type 0
FoundOne types cells f Ready x w None = ⊥
FoundOne types cells f Ready x w (Some v) = IsSomeAnd (kind_of f x) (λ q. Fits types q v) × Stands types cells v w
FoundOne types cells f Unbound x w o = o ≡ None
FoundOne types cells f Spent x w o = o ≡ None

-- of words, the first of which is that of this local
abbrev pub Found : List DataType → List Cell → Func → states.State → (local : ℕ) → List ℕ → List (Option Value) → Type 0
Found types cells f s x [] [] = Unit {0}
Found types cells f s x [] (o ∷ os) = ⊥
Found types cells f s x (w ∷ ws) [] = ⊥
Found types cells f s x (w ∷ ws) (o ∷ os) = FoundOne types cells f (s x) x w o × Found types cells f s (suc x) ws os

-- the value of a local
abbrev pub value_at : List (Option Value) → ℕ → Option Value
value_at [] x = None
value_at (o ∷ os) zero = o
value_at (o ∷ os) (suc x) = value_at os x

abbrev pub taken_one : List DataType → List Cell → ℕ → Option Value → List ℕ
taken_one types cells w None = []
taken_one types cells w (Some v) = footprint types cells v w

-- the cells of all values
abbrev pub taken : List DataType → List Cell → List ℕ → List (Option Value) → List ℕ
taken types cells [] os = []
taken types cells (w ∷ ws) [] = []
taken types cells (w ∷ ws) (o ∷ os) = taken_one types cells w o ++ taken types cells ws os

abbrev pub units_one : List DataType → (ℕ → ℕ) → Option Value → ℕ
units_one types units None = 0
units_one types units (Some v) = potential types units v

-- what they carry together, where the first is that of this local
abbrev pub units : List DataType → Carried ℕ → (local : ℕ) → List (Option Value) → ℕ
units types carried x [] = 0
units types carried x (o ∷ os) = units_one types (carried x) o + units types carried (suc x) os
