use Rattle.std.proofs.Common.{◌≡◌, ◌++◌, drop, map}
use Rattle.std.specs.Prelude.{flat_map}
use Rattle.machine_image.specs.Words.{frame_of}
use Rattle.machine_image.specs.Writing.{frame_text}
use Rattle.machine_image.proofs.writing.push_frames.Given as goal

abbrev pub invariant-frames : goal.invariant-frames
invariant-frames l = l.out.items ++ flat_map frame_text (map frame_of (drop l.frame-index l.frames)) ≡ l.initial.out.items ++ flat_map frame_text (map frame_of l.frames)
