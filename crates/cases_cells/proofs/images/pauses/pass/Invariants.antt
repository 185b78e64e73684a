use Rattle.cell_machine.specs.Laid.{SameRange}
use Rattle.cell_machine.specs.Running.{IsRunning}
use Rattle.cell_machine.specs.Views.{range_of}
use Rattle.cases_cells.proofs.images.pauses.pass.Given as goal

abbrev pub invariant-steps : goal.invariant-steps
invariant-steps l = record {
  running : IsRunning l.machine;
  range : SameRange (range_of l.initial.machine) (range_of l.machine);
}
