-- What the nodes in prefix order carry is what the tree carries.
use Rattle.std.proofs.Common.{◌≡◌, ℕ, ◌+◌, ◌<◌, ◌≤◌, List, [], length, get_or, drop, sym, ap, ◌∙◌, arith, drop-cons, drop_of_length-le, add-one}
use Rattle.camelot_values.specs.Value as value
use Rattle.camelot_values.specs.Value.{Value, Values}
use Rattle.camelot_values.specs.Kinds.{DataType}
use Rattle.camelot_values.specs.Items.{nodes, nodes_all, items_of}
use Rattle.camelot_values.specs.declared.value.Item.{Item}
use Rattle.annotations.specs.Vectors.{potential, potential_all}
use Rattle.annotations.specs.Steps.{item_units, all_units}

mutual
  units_of_nodes : (types : List DataType) (units : ℕ → ℕ) (v : Value) (rest : List Item)
      → all_units types units (nodes v rest) ≡ potential types units v + all_units types units rest
  units_of_nodes types units (value.Int z) rest = omega arith
  units_of_nodes types units (value.Flag b) rest = omega arith
  units_of_nodes types units value.Dia rest = omega arith
  units_of_nodes types units (value.Con d vs) rest = omega (arith, units_of_all types units vs rest)

  units_of_all : (types : List DataType) (units : ℕ → ℕ) (vs : Values) (rest : List Item)
      → all_units types units (nodes_all vs rest) ≡ potential_all types units vs + all_units types units rest
  units_of_all types units value.End rest = omega arith
  units_of_all types units (value.And v vs) rest = omega (arith, units_of_nodes types units v (nodes_all vs rest), units_of_all types units vs rest)

-- all nodes were seen
pub all_read : (types : List DataType) (units : ℕ → ℕ) (n i : ℕ) (xs : List Item) (v : Value) → xs ≡ items_of v → length xs ≤ i
    → n + all_units types units (drop i xs) ≡ all_units types units xs → n ≡ potential types units v
all_read types units n i xs v e h k = omega (arith, ap (all_units types units) (drop_of_length-le xs {i = i} h), k, ap (all_units types units) e, units_of_nodes types units v [])

-- one node more
pub node_more : (types : List DataType) (units : ℕ → ℕ) (xs : List Item) (i : ℕ) (d : Item) → i < length xs
    → all_units types units (drop i xs) ≡ item_units types units (get_or xs i d) + all_units types units (drop (i + 1) xs)
node_more types units xs i d h = ap (all_units types units) (drop-cons xs i d h) ∙ ap (λ n. item_units types units (get_or xs i d) + all_units types units (drop n xs)) (sym (add-one i))
