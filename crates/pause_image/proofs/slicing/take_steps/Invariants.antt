use Rattle.std.proofs.Common.{◌≡◌}
use Rattle.cell_machine.specs.Laid.{SameRange}
use Rattle.cell_machine.specs.Views.{range_of}
use Rattle.pause_image.specs.SliceLaws.{IsAhead}
use Rattle.pause_image.proofs.slicing.take_steps.Given as goal

abbrev pub invariant-each : goal.invariant-each
invariant-each l = record {
  ahead : IsAhead l.initial.machine l.machine l._step;
  range : SameRange (range_of l.initial.machine) (range_of l.machine);
  code : l.machine.code ≡ l.initial.machine.code;
}
