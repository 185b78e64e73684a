use Rattle.std.proofs.Common.{◌≡◌, ◌*◌, ◌≤◌, drop, length}
use Rattle.pause_image.specs.Judging.{plain_frames}
use Rattle.pause_image.proofs.Taking.{FramesMidway}
use Rattle.pause_image.proofs.owning.take_frames.Given as goal

abbrev pub invariant-frames : goal.invariant-frames
invariant-frames l = record {
  way : FramesMidway l.licence l.cells (plain_frames l.frames) (drop l.number (plain_frames l.frames)) l.number l.marks l.asked;
  many : length l.marks ≡ length l.cells;
  room : length l.vectors.items ≡ 256;
  few : l.asked ≤ l.number * 81446551064663739046163180945408;
}
