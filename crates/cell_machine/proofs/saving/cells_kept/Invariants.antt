use Rattle.std.proofs.Common.{◌≡◌, take}
use Rattle.cell_machine.proofs.saving.cells_kept.Given as goal

abbrev pub invariant-each : goal.invariant-each
invariant-each l = l.cells.items ≡ take l.at l.span.cells
