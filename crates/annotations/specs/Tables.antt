-- Cited by contracts.
-- Which constructors each type reaches, at hand: one list for each type, as the comparisons of a whole program ask
-- often.
use Rattle.std.specs.Prelude.{◌≡◌, ℕ, ◌+◌, Bool, true, false, List, [], ◌∷◌, ◌++◌, length, map, get_or, slice_get, replicate, IsTrue}
use Rattle.std.specs.List.{AllByRecursion, range_with_len}
use Rattle.std.specs.Option.{option_map_or}
use Rattle.camelot_values.specs.Kinds.{DataType}
use Rattle.camelot_values.specs.Heap.{is_heap_type, reached, Reaches}
use Rattle.camelot_values.specs.Lists.{Ascend, is_among}
use Rattle.camelot_values.specs.declared.kinds.Kind.{Kind}
use Rattle.camelot_values.specs.declared.kinds.Kind.TheVariants.{Int, Flag, Dia, Of}
use Rattle.annotations.specs.Vectors.{Vector}

-- Of each type: whether it's a heap type, and the constructors that it reaches, ascending. Of each constructor: its
-- type.
pub record Table : Type 0 where
  pub heaps : List Bool
  pub owners : List ℕ
  pub rows : List (List ℕ)

-- the constructors that this type reaches
abbrev pub reached_from : List DataType → ℕ → List ℕ
reached_from types t = reached types (Of t)

-- the type of each constructor of these types, the first of which has this number
abbrev pub owners_from : ℕ → List DataType → List ℕ
owners_from number [] = []
owners_from number (t ∷ ts) = replicate (length t.cons) number ++ owners_from (number + 1) ts

-- the table of these types
abbrev pub table_of : List DataType → Table
table_of types = record {
  heaps = map (is_heap_type types) (range_with_len 0 (length types));
  owners = owners_from 0 types;
  rows = map (reached_from types) (range_with_len 0 (length types));
}

-- ---- asked of a table

-- the row of this type, which ascends; a type that isn't there has an empty one
abbrev pub IsRow : List (List ℕ) → ℕ → List ℕ → Type 0
IsRow rows t row = (row ≡ get_or rows t []) × Ascend row

-- the kind is a heap kind
abbrev pub is_heap_in : Table → Kind → Bool
is_heap_in table (Of t) = get_or table.heaps t false
is_heap_in table Int = false
is_heap_in table Flag = false
is_heap_in table Dia = true

-- the constructor belongs to a heap type
abbrev pub is_heap_con_in : Table → ℕ → Bool
is_heap_con_in table con = option_map_or (λ t. get_or table.heaps t false) (slice_get table.owners con) false

-- the kind reaches the constructor
abbrev pub is_in : Table → Kind → ℕ → Bool
is_in table (Of t) con = is_among (get_or table.rows t []) con
is_in table Int con = false
is_in table Flag con = false
is_in table Dia con = false

-- the constructors that the kind reaches
abbrev pub row_in : Table → Kind → List ℕ
row_in table (Of t) = get_or table.rows t []
row_in table Int = []
row_in table Flag = []
row_in table Dia = []

-- the same of each constructor of the vector
abbrev pub AreIn : Table → Kind → Vector → Type 0
AreIn table q vector = AllByRecursion (λ e. IsTrue (is_in table q e.0)) vector

-- the kind reaches each constructor of the vector
abbrev pub ReachesEach : List DataType → Kind → Vector → Type 0
ReachesEach types q vector = AllByRecursion (λ e. Reaches types q e.0) vector
