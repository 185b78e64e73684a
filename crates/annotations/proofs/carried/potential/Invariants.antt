use Rattle.std.proofs.Common.{◌≡◌, ◌+◌, ◌*◌, ◌≤◌, drop}
use Rattle.annotations.specs.Vectors.{at, node_units}
use Rattle.annotations.specs.Steps.{all_units}
use Rattle.annotations.proofs.carried.potential.Given as goal

abbrev pub invariant-items : goal.invariant-items
invariant-items l = record {
  sum : l.total + all_units l.types (at l.vector) (drop l.item-index l.item-items) ≡ all_units l.types (at l.vector) l.item-items;
  few : l.total ≤ l.item-index * 18446744073709551615;
  known : l.known.units ≡ node_units l.types (at l.vector) l.known.con;
}
