-- Cited by contracts.
-- The types of a program as plain data: names, constructors and the kinds of their fields. The code keeps them in
-- vectors.
use Rattle.std.specs.Prelude.{◌≡◌, ℕ, suc, ◌-◌, ◌≤◌, nat_lt, ◌==◌, if◌then◌else◌, Bool, true, false, List, [], ◌∷◌, map, length, flat_map, slice_get, Option, Some, None}
use Rattle.std.specs.List.{AllByRecursion}
use Rattle.camelot_values.specs.declared.kinds.Kind.{Kind}
use Rattle.camelot_values.specs.declared.kinds.Kind.TheVariants as kind
use Rattle.camelot_values.specs.declared.kinds.Con.{Con}
use Rattle.camelot_values.specs.declared.kinds.TypeDef.{TypeDef}

-- the kinds are the same
abbrev pub same_kind : Kind → Kind → Bool
same_kind kind.Int kind.Int = true
same_kind kind.Flag kind.Flag = true
same_kind kind.Dia kind.Dia = true
same_kind (kind.Of t) (kind.Of u) = t == u
same_kind k l = false

-- a constructor: its name, whether it needs no cell, and the kinds of its fields
pub record Constructor : Type 0 where
  pub name : List ℕ
  pub inline : Bool
  pub fields : List Kind

-- a type: its name and its constructors
pub record DataType : Type 0 where
  pub name : List ℕ
  pub cons : List Constructor

abbrev pub constructor_of : Con → Constructor
constructor_of c = record { name = c.name; inline = c.inline; fields = c.fields.items }

abbrev pub data_type_of : TypeDef → DataType
data_type_of t = record { name = t.name; cons = map constructor_of t.cons.items }

-- all constructors, numbered through the types in order
abbrev pub constructors : List DataType → List Constructor
constructors types = flat_map (λ t. t.cons) types

-- a constructor by its number
abbrev pub constructor : List DataType → ℕ → Option Constructor
constructor types c = slice_get (constructors types) c

-- The type that a constructor belongs to, by its number, where `number` is the number of the first of these types; and
-- the constructor's place among those of its type.
abbrev pub type_from : ℕ → List DataType → ℕ → Option ℕ
type_from number [] c = None
type_from number (t ∷ ts) c = if nat_lt c (length t.cons) then Some number else type_from (suc number) ts (c - length t.cons)

abbrev pub type_of : List DataType → ℕ → Option ℕ
type_of types c = type_from 0 types c

abbrev pub place_of : List DataType → ℕ → Option ℕ
place_of [] c = None
place_of (t ∷ ts) c = if nat_lt c (length t.cons) then Some c else place_of ts (c - length t.cons)

-- the name of a constructor by its number
abbrev name_or_nothing : Option Constructor → List ℕ
name_or_nothing None = []
name_or_nothing (Some c) = c.name

abbrev pub constructor_name : List DataType → ℕ → List ℕ
constructor_name types c = name_or_nothing (constructor types c)

-- at most 4 fields, and none without a cell
pub record IsConstructor (c : Constructor) : Type 0 where
  pub few_fields : length c.fields ≤ 4
  pub inline_is_bare : c.inline ≡ true → c.fields ≡ []

-- from 1 to 64 constructors
pub record IsDataType (t : DataType) : Type 0 where
  pub some_cons : 1 ≤ length t.cons
  pub few_cons : length t.cons ≤ 64
  pub each : AllByRecursion IsConstructor t.cons

-- at most 64 types
pub record AreTypes (types : List DataType) : Type 0 where
  pub few_types : length types ≤ 64
  pub each : AllByRecursion IsDataType types
