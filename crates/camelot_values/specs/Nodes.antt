-- Private: words for functions of this crate.
-- Nodes of a value one by one: which of them count, and which kinds are still to come.
use Rattle.std.specs.Prelude.{ℕ, ◌+◌, ◌==◌, ◌&&◌, Bool, true, false, cond, List, [], ◌∷◌, ◌++◌, length, Option, Some, None}
use Rattle.std.specs.Option.{option_map_or}
use Rattle.camelot_values.specs.Value.{is_int32}
use Rattle.camelot_values.specs.Kinds.{DataType, Constructor, constructor, type_of, same_kind}
use Rattle.camelot_values.specs.Counts.{one_where, is_boxed}
use Rattle.camelot_values.specs.declared.kinds.Kind.{Kind}
use Rattle.camelot_values.specs.declared.kinds.Kind.TheVariants as kind
use Rattle.camelot_values.specs.declared.value.Item.{Item}
use Rattle.camelot_values.specs.declared.value.Item.TheVariants as item

-- the node is one of constructor c
abbrev pub is_node_of : ℕ → Item → Bool
is_node_of c (item.Con n d) = d == c
is_node_of c x = false

-- the node needs a cell
abbrev pub needs_cell : List DataType → Item → Bool
needs_cell types item.Dia = true
needs_cell types (item.Con n c) = is_boxed types c
needs_cell types x = false

-- how many nodes pass
abbrev pub nodes_where : (Item → Bool) → List Item → ℕ
nodes_where p [] = 0
nodes_where p (x ∷ xs) = one_where (p x) + nodes_where p xs

-- the kinds of the constructor's fields, where there are n of them
abbrev pub fields_where : ℕ → Option Constructor → Option (List Kind)
fields_where n None = None
fields_where n (Some con) = cond (length con.fields == n) (Some con.fields) None

-- the constructor is of the type with this kind
abbrev pub is_kind_of : Kind → Option ℕ → Bool
is_kind_of q None = false
is_kind_of q (Some t) = same_kind q (kind.Of t)

-- the kinds of the node's parts; None where it is of another kind or has another number of parts
abbrev pub parts_due : List DataType → Kind → Item → Option (List Kind)
parts_due types q (item.Int z) = cond (same_kind q kind.Int && is_int32 z) (Some []) None
parts_due types q (item.Flag b) = cond (same_kind q kind.Flag) (Some []) None
parts_due types q item.Dia = cond (same_kind q kind.Dia) (Some []) None
parts_due types q (item.Con n c) = cond (is_kind_of q (type_of types c)) (fields_where n (constructor types c)) None

-- the nodes are those of one value of each of these kinds
abbrev pub fits_nodes : List DataType → List Kind → List Item → Bool
fits_nodes types [] [] = true
fits_nodes types (q ∷ qs) [] = false
fits_nodes types [] (x ∷ xs) = false
fits_nodes types (q ∷ qs) (x ∷ xs) = option_map_or (λ fields. fits_nodes types (fields ++ qs) xs) (parts_due types q x) false
