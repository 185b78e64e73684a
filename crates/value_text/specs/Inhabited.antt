-- Cited by contracts.
-- What reading needs of types, as looked up once for many texts: which have values, and where their constructors begin.
use Rattle.std.specs.Prelude.{◌≡◌, ℕ, zero, suc, ◌+◌, ◌<◌, List, [], ◌∷◌, length, get_or}
use Rattle.camelot_values.specs.Kinds.{DataType}
use Rattle.value_text.specs.Finite.{Exact, all_ready}
use Rattle.value_text.specs.declared.inhabited.Inhabited.{Inhabited}

-- the number of a type's first constructor
abbrev pub first_con : List DataType → ℕ → ℕ
first_con [] t = 0
first_con (d ∷ ds) zero = 0
first_con (d ∷ ds) (suc t) = length d.cons + first_con ds t

-- these are the numbers of the types' first constructors
pub record AreFirst (types : List DataType) (firsts : List ℕ) : Type 0 where
  pub at : (t : ℕ) → t < length types → get_or firsts t 0 ≡ first_con types t

-- a kind of these types has a value exactly where the marks say so; whether all fields have values is known, and so is
-- where each type's constructors begin
abbrev pub Knows : List DataType → Inhabited → Type 0
Knows types i = Exact types i.marks × (i.full ≡ all_ready i.marks types) × AreFirst types i.firsts
