-- Laws, for the proofs of this crate and of those above it.
-- Counts of the nodes of values: no count is above the number of nodes, and a value has as many nodes in prefix order.
use Rattle.std.proofs.Common.{◌≡◌, ℕ, ◌+◌, ◌≤◌, Bool, true, false, List, [], ◌∷◌, ◌++◌, length, arith}
use Rattle.std.specs.Prelude.{◌==◌}
use Rattle.camelot_values.specs.Value as value
use Rattle.camelot_values.specs.Value.{Value, Values, parts}
use Rattle.camelot_values.specs.Kinds.{DataType}
use Rattle.camelot_values.specs.Items.{nodes, nodes_all, items_of}
use Rattle.camelot_values.specs.Counts.{one_where, is_boxed, count, count_all, count_among, cells, cells_all, cells_among, size, size_all}
use Rattle.camelot_values.specs.declared.value.Item.{Item}

one_at_most : (b : Bool) → one_where b ≤ 1
one_at_most true = omega arith
one_at_most false = omega arith

mutual
  pub length_nodes : (v : Value) (rest : List Item) → length (nodes v rest) ≡ size v + length rest
  length_nodes (value.Int z) rest = omega arith
  length_nodes (value.Flag b) rest = omega arith
  length_nodes value.Dia rest = omega arith
  length_nodes (value.Con c vs) rest = omega (arith, length_nodes_all vs rest)

  pub length_nodes_all : (vs : Values) (rest : List Item) → length (nodes_all vs rest) ≡ size_all vs + length rest
  length_nodes_all value.End rest = omega arith
  length_nodes_all (value.And v vs) rest = omega (arith, length_nodes v (nodes_all vs rest), length_nodes_all vs rest)

-- a value has as many items as nodes
pub length_items : (v : Value) → length (items_of v) ≡ size v
length_items v = omega (arith, length_nodes v [])

mutual
  pub count_within : (c : ℕ) (v : Value) → count c v ≤ size v
  count_within c (value.Int z) = omega arith
  count_within c (value.Flag b) = omega arith
  count_within c value.Dia = omega arith
  count_within c (value.Con d vs) = omega (arith, one_at_most (d == c), count_all_within c vs)

  pub count_all_within : (c : ℕ) (vs : Values) → count_all c vs ≤ size_all vs
  count_all_within c value.End = omega arith
  count_all_within c (value.And v vs) = omega (arith, count_within c v, count_all_within c vs)

mutual
  pub cells_within : (types : List DataType) (v : Value) → cells types v ≤ size v
  cells_within types (value.Int z) = omega arith
  cells_within types (value.Flag b) = omega arith
  cells_within types value.Dia = omega arith
  cells_within types (value.Con c vs) = omega (arith, one_at_most (is_boxed types c), cells_all_within types vs)

  pub cells_all_within : (types : List DataType) (vs : Values) → cells_all types vs ≤ size_all vs
  cells_all_within types value.End = omega arith
  cells_all_within types (value.And v vs) = omega (arith, cells_within types v, cells_all_within types vs)

-- counts of lists of arguments add up
pub count_among_append : (c : ℕ) (us vs : List Value) → count_among c (us ++ vs) ≡ count_among c us + count_among c vs
count_among_append c [] vs = omega arith
count_among_append c (u ∷ us) vs = omega (arith, count_among_append c us vs)

pub cells_among_append : (types : List DataType) (us vs : List Value) → cells_among types (us ++ vs) ≡ cells_among types us + cells_among types vs
cells_among_append types [] vs = omega arith
cells_among_append types (u ∷ us) vs = omega (arith, cells_among_append types us vs)
