use Rattle.std.proofs.Common.{◌≡◌, take}
use Rattle.grail_code.specs.Code.{code_of}
use Rattle.cell_machine.specs.FrameWords.{AreFrames}
use Rattle.cell_machine.specs.Saving.{plain_frames, AreLaid}
use Rattle.cell_machine.specs.Walking.{IsPlace}
use Rattle.cell_machine.proofs.restoring.lay_frames.Given as goal

abbrev pub invariant-each : goal.invariant-each
invariant-each l = record {
  laid : AreLaid (code_of l.code) l.packed l.frames l.last (plain_frames (take l.number l.kept));
  there : IsPlace (code_of l.code) l.last.func l.last.block l.last.place;
  are : AreFrames l.frames;
  width : l.frames.width ≡ l.initial.frames.width;
}
