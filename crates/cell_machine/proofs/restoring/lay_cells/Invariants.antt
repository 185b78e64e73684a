use Rattle.std.proofs.Common.{◌≡◌, take}
use Rattle.cell_machine.specs.Laid.{SameRange}
use Rattle.cell_machine.proofs.restoring.lay_cells.Given as goal

abbrev pub invariant-each : goal.invariant-each
invariant-each l = record {
  so_far : take l.at l.span.cells ≡ take l.at l.cells;
  range : SameRange l.initial.span l.span;
}
