use Rattle.std.proofs.Common.{◌≡◌, ◌+◌, ◌≤◌, drop}
use Rattle.camelot_values.specs.Nodes.{is_node_of, nodes_where}
use Rattle.camelot_values.proofs.value.Flat.count.Given as goal

abbrev pub invariant-items : goal.invariant-items
invariant-items l = record {
  sum : l.total + nodes_where (is_node_of l.con) (drop l.item-index l.item-items) ≡ nodes_where (is_node_of l.con) l.item-items;
  few : l.total ≤ l.item-index;
}
