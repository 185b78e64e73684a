use Rattle.std.proofs.Common.{◌≡◌, ◌++◌, drop, map}
use Rattle.std.specs.Prelude.{flat_map}
use Rattle.machine_image.specs.Words.{cell_of}
use Rattle.machine_image.specs.Writing.{cell_text}
use Rattle.machine_image.proofs.writing.push_cells.Given as goal

abbrev pub invariant-cells : goal.invariant-cells
invariant-cells l = l.out.items ++ flat_map cell_text (map cell_of (drop l.cell-index l.cells)) ≡ l.initial.out.items ++ flat_map cell_text (map cell_of l.cells)
