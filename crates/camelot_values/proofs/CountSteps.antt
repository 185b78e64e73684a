-- Counts over the nodes in prefix order are those of the tree.
use Rattle.std.proofs.Common.{◌≡◌, ℕ, ◌+◌, ◌<◌, ◌≤◌, Bool, List, [], length, get_or, drop, sym, ap, ◌∙◌, arith, drop-cons, drop_of_length-le, add-one}
use Rattle.camelot_values.specs.Value as value
use Rattle.camelot_values.specs.Value.{Value, Values}
use Rattle.camelot_values.specs.Kinds.{DataType}
use Rattle.camelot_values.specs.Items.{nodes, nodes_all, items_of}
use Rattle.camelot_values.specs.Counts.{one_where, count, count_all, cells, cells_all}
use Rattle.camelot_values.specs.Nodes.{is_node_of, needs_cell, nodes_where}
use Rattle.camelot_values.specs.declared.value.Item.{Item}

mutual
  count_nodes : (c : ℕ) (v : Value) (rest : List Item) → nodes_where (is_node_of c) (nodes v rest) ≡ count c v + nodes_where (is_node_of c) rest
  count_nodes c (value.Int z) rest = omega arith
  count_nodes c (value.Flag b) rest = omega arith
  count_nodes c value.Dia rest = omega arith
  count_nodes c (value.Con d vs) rest = omega (arith, count_nodes_all c vs rest)

  count_nodes_all : (c : ℕ) (vs : Values) (rest : List Item) → nodes_where (is_node_of c) (nodes_all vs rest) ≡ count_all c vs + nodes_where (is_node_of c) rest
  count_nodes_all c value.End rest = omega arith
  count_nodes_all c (value.And v vs) rest = omega (arith, count_nodes c v (nodes_all vs rest), count_nodes_all c vs rest)

mutual
  cell_nodes : (types : List DataType) (v : Value) (rest : List Item)
      → nodes_where (needs_cell types) (nodes v rest) ≡ cells types v + nodes_where (needs_cell types) rest
  cell_nodes types (value.Int z) rest = omega arith
  cell_nodes types (value.Flag b) rest = omega arith
  cell_nodes types value.Dia rest = omega arith
  cell_nodes types (value.Con d vs) rest = omega (arith, cell_nodes_all types vs rest)

  cell_nodes_all : (types : List DataType) (vs : Values) (rest : List Item)
      → nodes_where (needs_cell types) (nodes_all vs rest) ≡ cells_all types vs + nodes_where (needs_cell types) rest
  cell_nodes_all types value.End rest = omega arith
  cell_nodes_all types (value.And v vs) rest = omega (arith, cell_nodes types v (nodes_all vs rest), cell_nodes_all types vs rest)

all_seen : (p : Item → Bool) (n i : ℕ) (xs : List Item) → length xs ≤ i → n + nodes_where p (drop i xs) ≡ nodes_where p xs → n ≡ nodes_where p xs
all_seen p n i xs h e = let k = ap (nodes_where p) (drop_of_length-le xs {i = i} h) in omega (arith, k, e)

pub count_read : (c n i : ℕ) (xs : List Item) (v : Value) → xs ≡ items_of v → length xs ≤ i
    → n + nodes_where (is_node_of c) (drop i xs) ≡ nodes_where (is_node_of c) xs → n ≡ count c v
count_read c n i xs v e h k = omega (arith, all_seen (is_node_of c) n i xs h k, ap (nodes_where (is_node_of c)) e, count_nodes c v [])

pub cells_read : (types : List DataType) (n i : ℕ) (xs : List Item) (v : Value) → xs ≡ items_of v → length xs ≤ i
    → n + nodes_where (needs_cell types) (drop i xs) ≡ nodes_where (needs_cell types) xs → n ≡ cells types v
cells_read types n i xs v e h k = omega (arith, all_seen (needs_cell types) n i xs h k, ap (nodes_where (needs_cell types)) e, cell_nodes types v [])

-- one node more
pub node_more : (p : Item → Bool) (xs : List Item) (i : ℕ) (d : Item) → i < length xs
    → nodes_where p (drop i xs) ≡ one_where (p (get_or xs i d)) + nodes_where p (drop (i + 1) xs)
node_more p xs i d h = ap (nodes_where p) (drop-cons xs i d h) ∙ ap (λ n. one_where (p (get_or xs i d)) + nodes_where p (drop n xs)) (sym (add-one i))
