use Rattle.std.proofs.Common.{◌≡◌, ◌+◌, ◌≤◌, drop}
use Rattle.camelot_values.specs.Counts.{is_boxed}
use Rattle.camelot_values.specs.Nodes.{needs_cell, nodes_where}
use Rattle.camelot_values.proofs.value.Flat.cells.Given as goal

abbrev pub invariant-items : goal.invariant-items
invariant-items l = record {
  sum : l.total + nodes_where (needs_cell l.types) (drop l.item-index l.item-items) ≡ nodes_where (needs_cell l.types) l.item-items;
  few : l.total ≤ l.item-index;
  known : l.known.boxed ≡ is_boxed l.types l.known.con;
}
