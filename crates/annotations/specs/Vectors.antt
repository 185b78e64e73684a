-- Cited by contracts.
-- Annotations: how many units a node of each constructor carries, and the potential of a value, which is what all its
-- nodes carry together (Hofmann and Jost 2003). One vector covers all occurrences of a constructor inside one value.
use Rattle.std.specs.Prelude.{ℕ, ◌+◌, ◌*◌, ◌<◌, ◌≤◌, ◌==◌, if◌then◌else◌, Bool, false, List, [], ◌∷◌, length, map, cond}
use Rattle.std.specs.List.{AllByRecursion, filter, range_with_len}
use Rattle.std.specs.Option.{option_map_or}
use Rattle.camelot_values.specs.Value as value
use Rattle.camelot_values.specs.Value.{Value, Values, parts}
use Rattle.camelot_values.specs.Kinds.{DataType, constructors, type_of}
use Rattle.camelot_values.specs.Heap.{is_heap_type, Reaches}
use Rattle.camelot_values.specs.Counts.{count}
use Rattle.camelot_values.specs.Lists.{Ascend}
use Rattle.camelot_values.specs.declared.kinds.Kind.{Kind}

-- ---- vectors

-- constructors with their units
abbrev pub Vector : Type 0
Vector = List (ℕ × ℕ)

-- the constructors ascend, and each has at least one unit
pub record IsVector (vector : Vector) : Type 0 where
  pub ascending : Ascend (map (λ p. p.0) vector)
  pub some : AllByRecursion (λ p. 1 ≤ p.1) vector

-- the units of a constructor; what isn't there has none
abbrev pub at : Vector → ℕ → ℕ
at [] con = 0
at (p ∷ ps) con = if p.0 == con then p.1 else at ps con

-- at least as many units on each constructor that the kind reaches
unfoldable pub AtLeast : List DataType → Kind → (left right : ℕ → ℕ) → Type 0
AtLeast types kind left right = (con : ℕ) → Reaches types kind con → right con ≤ left con

-- the same of arguments of these kinds, one by one
abbrev pub EachAtLeast : List DataType → List Kind → (lefts rights : List (ℕ → ℕ)) → Type 0
EachAtLeast types [] [] [] = Unit {0}
EachAtLeast types (q ∷ qs) (left ∷ lefts) (right ∷ rights) = AtLeast types q left right × EachAtLeast types qs lefts rights
EachAtLeast types qs lefts rights = ⊥

-- the first constructor that the kind reaches which has fewer on the left
pub record IsFirstBelow (types : List DataType) (kind : Kind) (left right : ℕ → ℕ) (con : ℕ) : Type 0 where
  pub reached : Reaches types kind con
  pub below : left con < right con
  pub before : (other : ℕ) → other < con → Reaches types kind other → right other ≤ left other

-- ---- potential

-- the constructor belongs to a heap type
abbrev pub is_heap_con : List DataType → ℕ → Bool
is_heap_con types con = option_map_or (is_heap_type types) (type_of types con) false

-- what a node of a constructor carries: nothing where its type needs no cell
abbrev pub node_units : List DataType → (ℕ → ℕ) → ℕ → ℕ
node_units types units con = cond (is_heap_con types con) (units con) 0

-- what all nodes of a value carry; ints, truth values and diamonds carry nothing
abbrev mutual
  pub potential : List DataType → (ℕ → ℕ) → Value → ℕ
  potential types units (value.Con c vs) = node_units types units c + potential_all types units vs
  potential types units v = 0

  pub potential_all : List DataType → (ℕ → ℕ) → Values → ℕ
  potential_all types units value.End = 0
  potential_all types units (value.And v vs) = potential types units v + potential_all types units vs

-- of arguments, each with its own units
abbrev pub potentials : List DataType → List (ℕ → ℕ) → List Value → ℕ
potentials types (units ∷ others) (v ∷ vs) = potential types units v + potentials types others vs
potentials types others vs = 0

-- ---- the same by constructors

-- the constructors of heap types, ascending
abbrev pub heap_cons : List DataType → List ℕ
heap_cons types = filter (is_heap_con types) (range_with_len 0 (length (constructors types)))

-- the sum over these constructors of the units times the number of nodes
abbrev pub sum_over : List ℕ → (ℕ → ℕ) → Value → ℕ
sum_over [] units v = 0
sum_over (c ∷ cs) units v = units c * count c v + sum_over cs units v
