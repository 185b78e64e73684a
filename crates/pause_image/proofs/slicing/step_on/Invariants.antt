use Rattle.std.proofs.Common.{◌≡◌}
use Rattle.cell_machine.specs.Coming.{steps_left}
use Rattle.cell_machine.specs.Laid.{SameRange}
use Rattle.cell_machine.specs.Views.{range_of}
use Rattle.pause_image.specs.SliceLaws.{IsLent}
use Rattle.pause_image.proofs.slicing.step_on.Given as goal

abbrev pub decreases-each : goal.decreases-each
decreases-each l = steps_left l.machine.state

abbrev pub invariant-each : goal.invariant-each
invariant-each l = record {
  lent : IsLent l.initial.machine l.machine 0 l.lender;
  range : SameRange (range_of l.initial.machine) (range_of l.machine);
  code : l.machine.code ≡ l.initial.machine.code;
}
