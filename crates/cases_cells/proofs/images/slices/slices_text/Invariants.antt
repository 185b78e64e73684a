use Rattle.std.proofs.Common.{◌≡◌}
use Rattle.cell_machine.specs.Running.{IsRunning}
use Rattle.cell_machine.specs.Views.{range_of}
use Rattle.cell_span.specs.Range.{IsWhole}
use Rattle.cases_cells.proofs.images.slices.slices_text.Given as goal

abbrev pub invariant-slices : goal.invariant-slices
invariant-slices l = record {
  running : IsRunning l.machine;
  code : l.machine.code ≡ l.job.licence.code;
  whole : IsWhole (range_of l.machine);
}
