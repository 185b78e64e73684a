-- Cited by contracts.
-- A value as the list of its nodes in prefix order, and back.
use Rattle.std.specs.Prelude.{◌≡◌, ℕ, zero, suc, Option, Some, None, List, [], ◌∷◌, refl}
use Rattle.std.proofs.Common.{sym, ap, ◌∙◌}
use Rattle.camelot_values.specs.Value as value
use Rattle.camelot_values.specs.Value.{Value, Values, part_count}
use Rattle.camelot_values.specs.declared.value.Item.{Item}
use Rattle.camelot_values.specs.declared.value.Item.TheVariants as item

-- the nodes of a value, each before its parts, and then the rest
abbrev mutual
  pub nodes : Value → List Item → List Item
  nodes (value.Int z) rest = item.Int z ∷ rest
  nodes (value.Flag b) rest = item.Flag b ∷ rest
  nodes value.Dia rest = item.Dia ∷ rest
  nodes (value.Con c vs) rest = item.Con (part_count vs) c ∷ nodes_all vs rest

  pub nodes_all : Values → List Item → List Item
  nodes_all value.End rest = rest
  nodes_all (value.And v vs) rest = nodes v (nodes_all vs rest)

-- the nodes of one value
abbrev pub items_of : Value → List Item
items_of v = nodes v []

-- ---- back: the values that a list of nodes spells, read from its end

-- a value in front of others
abbrev pub before : Value → Option Values → Option Values
before v None = None
before v (Some vs) = Some (value.And v vs)

-- others behind the first value
abbrev pub behind : Value → Option (Values × Values) → Option (Values × Values)
behind v None = None
behind v (Some p) = Some (value.And v p.0, p.1)

-- the first n values, and the others
abbrev pub split : ℕ → Values → Option (Values × Values)
split zero vs = Some (value.End, vs)
split (suc n) value.End = None
split (suc n) (value.And v vs) = behind v (split n vs)

-- the first n values become the parts of a constructor
abbrev pub gather : ℕ → Option (Values × Values) → Option Values
gather c None = None
gather c (Some p) = Some (value.And (value.Con c p.0) p.1)

abbrev pub take_parts : ℕ → ℕ → Option Values → Option Values
take_parts c n None = None
take_parts c n (Some vs) = gather c (split n vs)

-- the values one after the other, where the nodes are those of whole values
abbrev pub values_of : List Item → Option Values
values_of [] = Some value.End
values_of (item.Int z ∷ rest) = before (value.Int z) (values_of rest)
values_of (item.Flag b ∷ rest) = before (value.Flag b) (values_of rest)
values_of (item.Dia ∷ rest) = before value.Dia (values_of rest)
values_of (item.Con n c ∷ rest) = take_parts c n (values_of rest)

-- the first of the values, or a diamond where there is none
abbrev pub first : Option Values → Value
first None = value.Dia
first (Some value.End) = value.Dia
first (Some (value.And v vs)) = v

-- the value that the nodes spell
abbrev pub value_of : List Item → Value
value_of items = first (values_of items)

-- the nodes are those of one value
abbrev pub IsOneValue : List Item → Type 0
IsOneValue items = values_of items ≡ Some (value.And (value_of items) value.End)

-- ---- the two ways undo each other

abbrev before_all : Values → Values → Values
before_all value.End ws = ws
before_all (value.And v vs) ws = value.And v (before_all vs ws)

abbrev in_front : Values → Option Values → Option Values
in_front vs None = None
in_front vs (Some ws) = Some (before_all vs ws)

split-before_all : (vs ws : Values) → split (part_count vs) (before_all vs ws) ≡ Some (vs, ws)
split-before_all value.End ws = refl
split-before_all (value.And v vs) ws = ap (behind v) (split-before_all vs ws)

take_parts-in_front : (c : ℕ) (vs : Values) (o : Option Values) → take_parts c (part_count vs) (in_front vs o) ≡ before (value.Con c vs) o
take_parts-in_front c vs None = refl
take_parts-in_front c vs (Some ws) = ap (gather c) (split-before_all vs ws)

before-in_front : (v : Value) (vs : Values) (o : Option Values) → before v (in_front vs o) ≡ in_front (value.And v vs) o
before-in_front v vs None = refl
before-in_front v vs (Some ws) = refl

in_front-End : (o : Option Values) → o ≡ in_front value.End o
in_front-End None = refl
in_front-End (Some ws) = refl

mutual
  pub values_of-nodes : (v : Value) (rest : List Item) → values_of (nodes v rest) ≡ before v (values_of rest)
  values_of-nodes (value.Int z) rest = refl
  values_of-nodes (value.Flag b) rest = refl
  values_of-nodes value.Dia rest = refl
  values_of-nodes (value.Con c vs) rest = ap (take_parts c (part_count vs)) (values_of-nodes_all vs rest) ∙ take_parts-in_front c vs (values_of rest)

  pub values_of-nodes_all : (vs : Values) (rest : List Item) → values_of (nodes_all vs rest) ≡ in_front vs (values_of rest)
  values_of-nodes_all value.End rest = in_front-End (values_of rest)
  values_of-nodes_all (value.And v vs) rest = values_of-nodes v (nodes_all vs rest) ∙ ap (before v) (values_of-nodes_all vs rest) ∙ before-in_front v vs (values_of rest)

-- the nodes of a value spell it
pub value_of-items_of : (v : Value) → value_of (items_of v) ≡ v
value_of-items_of v = ap first (values_of-nodes v [])

pub IsOneValue-items_of : (v : Value) → IsOneValue (items_of v)
IsOneValue-items_of v = values_of-nodes v [] ∙ ap (λ w. Some (value.And w value.End)) (sym (value_of-items_of v))
