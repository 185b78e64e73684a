use Rattle.std.proofs.Common.{◌≡◌, drop, length}
use Rattle.cell_machine.specs.Bounds.{put_back}
use Rattle.cell_machine.specs.FrameWords.{AreFrames, top_of, waiting_of}
use Rattle.cell_machine.specs.Saving.{plain_bounds}
use Rattle.cell_machine.proofs.restoring.bind_kept.Given as goal

abbrev pub invariant-each : goal.invariant-each
invariant-each l = record {
  so_far : put_back (top_of l.frames) (plain_bounds (drop l.bound-index l.live)) ≡ put_back (top_of l.initial.frames) (plain_bounds l.live);
  many : length (top_of l.frames) ≡ length (top_of l.initial.frames);
  waiting : waiting_of l.packed l.frames ≡ waiting_of l.packed l.initial.frames;
  are : AreFrames l.frames;
  width : l.frames.width ≡ l.initial.frames.width;
}
