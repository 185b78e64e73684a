use Rattle.std.proofs.Common.{◌≡◌, ◌≤◌, ◌-◌, length, drop}
use Rattle.std.specs.Prelude.{◌==◌, if◌then◌else◌}
use Rattle.cell_machine.specs.Cells.{no_cell}
use Rattle.cell_machine.specs.Loading.{free_from}
use Rattle.cell_machine.specs.Laid.{SameRange}
use Rattle.cell_machine.proofs.loading.free_cells.Given as goal

abbrev pub decreases-cells : goal.decreases-cells
decreases-cells l = l.at

abbrev pub invariant-cells : goal.invariant-cells
invariant-cells l = record {
  from : l.from ≤ l.at;
  inside : l.at ≤ length l.span.cells;
  free : drop l.at l.span.cells ≡ free_from l.at (length l.span.cells - l.at);
  next : l.next ≡ (if length l.span.cells - l.at == 0 then no_cell else l.at);
  range : SameRange l.initial.span l.span;
}
