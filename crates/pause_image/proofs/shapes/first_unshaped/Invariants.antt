use Rattle.std.proofs.Common.{◌≡◌, ◌≤◌, drop, length}
use Rattle.pause_image.specs.Judging.{plain_frames}
use Rattle.pause_image.proofs.Shaping.{ShapedBefore}
use Rattle.pause_image.proofs.shapes.first_unshaped.Given as goal

abbrev pub invariant-frames : goal.invariant-frames
invariant-frames l = record {
  before : ShapedBefore l.licence (plain_frames l.frames) (drop l.number (plain_frames l.frames)) l.number;
  few : l.number ≤ 65537;
  many : length l.marks ≡ 256;
}
