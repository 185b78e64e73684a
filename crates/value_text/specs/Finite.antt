-- Cited by contracts.
-- Which types have a value: a type has one where a constructor of it has none but fields that have.
use Rattle.std.specs.Prelude.{◌≡◌, ℕ, Bool, true, false, List, slice_get, Some, ◌&&◌, not}
use Rattle.std.specs.List.{list_all, list_any}
use Rattle.std.specs.Option.{option_map_or}
use Rattle.camelot_values.specs.Value.{Value}
use Rattle.camelot_values.specs.Kinds.{DataType, Constructor}
use Rattle.camelot_values.specs.Typing.{Fits}
use Rattle.camelot_values.specs.declared.kinds.Kind.{Kind}
use Rattle.camelot_values.specs.declared.kinds.Kind.TheVariants.{Of}

-- the type is marked
abbrev pub is_marked : List Bool → ℕ → Bool
is_marked marks t = option_map_or (λ b. b) (slice_get marks t) false

-- the kind is int, bool or diamond, or its type is marked
abbrev pub has_value : List Bool → Kind → Bool
has_value marks (Of t) = is_marked marks t
has_value marks q = true

-- so are all fields of the constructor
abbrev pub is_ready : List Bool → Constructor → Bool
is_ready marks con = list_all (has_value marks) con.fields

-- so are all fields of all constructors of these types
abbrev pub all_ready : List Bool → List DataType → Bool
all_ready marks types = list_all (λ d. list_all (is_ready marks) d.cons) types

pub record HasValue (types : List DataType) (q : Kind) : Type 0 where
  pub value : Value
  pub fits : Fits types q value

-- each marked type has a value
abbrev pub Sound : List DataType → List Bool → Type 0
Sound types marks = (t : ℕ) → is_marked marks t ≡ true → HasValue types (Of t)

-- no type is left that has a constructor with such fields
abbrev pub NoneReady : List DataType → List Bool → Type 0
NoneReady types marks = (t : ℕ) (def : DataType) → slice_get types t ≡ Some def → is_marked marks t ≡ false → list_any (is_ready marks) def.cons ≡ true → ⊥

-- a kind has a value exactly where the marks say so
pub record Exact (types : List DataType) (marks : List Bool) : Type 0 where
  pub sound : (q : Kind) → has_value marks q ≡ true → HasValue types q
  pub complete : (q : Kind) → HasValue types q → has_value marks q ≡ true

-- this type isn't marked, and has such a constructor
pub record ReadyAt (types : List DataType) (marks : List Bool) (t : ℕ) : Type 0 where
  pub def : DataType
  pub is : slice_get types t ≡ Some def
  pub unmarked : is_marked marks t ≡ false
  pub ready : list_any (is_ready marks) def.cons ≡ true

-- the type is such a one
abbrev pub is_next : List Bool → ℕ → DataType → Bool
is_next marks t def = not (is_marked marks t) && list_any (is_ready marks) def.cons
