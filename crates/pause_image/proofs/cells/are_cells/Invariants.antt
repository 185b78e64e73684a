use Rattle.std.proofs.Common.{map, take}
use Rattle.std.specs.List.{AllByRecursion}
use Rattle.machine_image.specs.Images.{CellIsFormed}
use Rattle.machine_image.specs.Words.{cell_of}
use Rattle.pause_image.specs.Pausing.{HasFourWords}
use Rattle.pause_image.proofs.cells.are_cells.Given as goal

abbrev pub invariant-cells : goal.invariant-cells
invariant-cells l = record {
  four : AllByRecursion HasFourWords (take l.at l.cells);
  formed : AllByRecursion CellIsFormed (map cell_of (take l.at l.cells));
}
