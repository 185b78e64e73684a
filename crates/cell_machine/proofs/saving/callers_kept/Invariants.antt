use Rattle.std.proofs.Common.{◌≡◌, ◌++◌, ◌≤◌, length, map}
use Rattle.std.specs.List.{AllByRecursion}
use Rattle.grail_code.specs.Code.{code_of}
use Rattle.cell_machine.specs.FrameWords.{width_of}
use Rattle.cell_machine.specs.Saved.{waiting_kept}
use Rattle.cell_machine.specs.Saving.{in_order, plain_frames, StandNear}
use Rattle.cell_machine.proofs.saving.callers_kept.Given as goal

abbrev pub decreases-each : goal.decreases-each
decreases-each l = length l.left

abbrev pub invariant-each : goal.invariant-each
invariant-each l = record {
  so_far : plain_frames l.kept.items ++ map (waiting_kept (code_of l.code)) (in_order l.layout.packed.positions.items l.left l.rest)
      ≡ map (waiting_kept (code_of l.code)) (in_order l.layout.packed.positions.items l.callers l.words);
  within : width_of l.left ≤ length l.rest;
  near : StandNear l.layout.packed.positions.items l.left;
  narrow : AllByRecursion (λ c. c.width ≤ 256) l.left;
}
