-- Cited by contracts.
-- Which kinds have values that take cells, and which constructors of heap types belong to a kind or to its fields,
-- followed to the end. A type with no boxed constructor needs no cell; every other type, and the diamond, is a heap
-- type (Hofmann 2000), whose values are used at most once where they are owned. A kind reaches no constructor of a
-- type that needs no cell.
use Rattle.std.specs.Prelude.{◌≡◌, ℕ, zero, suc, not, Bool, true, false, List, [], ◌∷◌, length, flat_map, slice_get, ◌==◌, ◌&&◌, ◌||◌, Option, Some, None, IsTrue}
use Rattle.std.specs.List.{list_any, filter, range_with_len}
use Rattle.std.specs.Option.{option_map_or}
use Rattle.camelot_values.specs.declared.kinds.Kind.{Kind}
use Rattle.camelot_values.specs.declared.kinds.Kind.TheVariants.{Int, Flag, Dia, Of}
use Rattle.camelot_values.specs.Kinds.{DataType, constructors, type_of}

-- some constructor is boxed
abbrev pub has_boxed : DataType → Bool
has_boxed t = list_any (λ c. not c.inline) t.cons

-- a type that isn't there is no heap type
abbrev pub is_heap_type : List DataType → ℕ → Bool
is_heap_type types t = option_map_or has_boxed (slice_get types t) false

abbrev pub is_heap : List DataType → Kind → Bool
is_heap types Int = false
is_heap types Flag = false
is_heap types Dia = true
is_heap types (Of t) = is_heap_type types t

-- the kinds of all fields of a type's constructors
abbrev pub fields_of : DataType → List Kind
fields_of t = flat_map (λ c. c.fields) t.cons

abbrev pub fields_at : List DataType → ℕ → List Kind
fields_at types t = option_map_or fields_of (slice_get types t) []

-- the kind is that of type u
abbrev pub is_of : ℕ → Kind → Bool
is_of u (Of t) = t == u
is_of u kind = false

-- type u is one step behind type t: some constructor of t has a field of u
abbrev pub HoldsType : List DataType → ℕ → ℕ → Type 0
HoldsType types t u = IsTrue (list_any (is_of u) (fields_at types t))

-- from type t over these types, each a field of the one before, to type u
abbrev pub LeadsTo : List DataType → ℕ → List ℕ → ℕ → Type 0
LeadsTo types t [] u = t ≡ u
LeadsTo types t (v ∷ path) u = HoldsType types t v × LeadsTo types v path u

-- type u stands in type t itself or in its fields, followed to the end
abbrev pub IsLedTo : List DataType → ℕ → ℕ → Type 0
IsLedTo types t u = (path : List ℕ) × LeadsTo types t path u

-- the constructor belongs to a heap type that stands in type t itself or in its fields, followed to the end
pub record ReachesFrom (types : List DataType) (t con : ℕ) : Type 0 where
  pub last : ℕ
  pub leads : IsLedTo types t last
  pub heap : IsTrue (is_heap_type types last)
  pub owned : type_of types con ≡ Some last

abbrev pub Reaches : List DataType → Kind → ℕ → Type 0
Reaches types (Of t) con = ReachesFrom types t con
Reaches types kind con = ⊥

-- ---- all that a kind reaches

-- some constructor of type t has a field of type u
abbrev pub holds_type : List DataType → ℕ → ℕ → Bool
holds_type types t u = list_any (is_of u) (fields_at types t)

-- From type t to type u by way of types below n alone (Warshall 1962): either without type n - 1, or to it and on from
-- it.
abbrev pub leads_by : List DataType → ℕ → ℕ → ℕ → Bool
leads_by types zero t u = (t == u) || holds_type types t u
leads_by types (suc n) t u = leads_by types n t u || (leads_by types n t n && leads_by types n n u)

-- the constructor that belongs to this type is reached from type t
abbrev pub is_reached_in : List DataType → ℕ → Option ℕ → Bool
is_reached_in types t None = false
is_reached_in types t (Some last) = is_heap_type types last && leads_by types (length types) t last

abbrev pub is_reached : List DataType → Kind → ℕ → Bool
is_reached types (Of t) con = is_reached_in types t (type_of types con)
is_reached types Int con = false
is_reached types Flag con = false
is_reached types Dia con = false

-- the constructors that the kind reaches, ascending
abbrev pub reached : List DataType → Kind → List ℕ
reached types kind = filter (is_reached types kind) (range_with_len 0 (length (constructors types)))
