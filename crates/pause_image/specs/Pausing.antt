-- Cited by contracts.
-- The image of what was kept of a state, and what a pause hands out.
use Rattle.std.specs.Prelude.{◌≡◌, ◌<◌, map, length, false}
use Rattle.std.specs.List.{AllByRecursion}
use Rattle.cell_span.specs.declared.cell.Cell.{Cell}
use Rattle.machine_image.specs.Images.{Image, CellIsFormed, image_text}
use Rattle.machine_image.specs.Words.{cell_of}
use Rattle.cell_machine.specs.Saved.{Saved, kept}
use Rattle.cell_machine.specs.Views.{MachineView, IsStackFor, range_of}
use Rattle.pause_image.specs.declared.pausing.Paused.{Paused}
use Rattle.pause_image.specs.Slicing.{state_lends}

-- its text has the numbers of its cells
abbrev pub image_of : Saved → Image
image_of s = record {
  counts = record { calls = s.calls; net = s.net; peak = s.peak; fuel = s.fuel; free = s.free; cells = length s.cells };
  frames = s.frames;
  cells = map cell_of s.cells;
}

abbrev pub HasFourWords : Cell → Type 0
HasFourWords c = length c.words ≡ 4

-- no frame has a lent local that is ready
abbrev pub LendsNothing : MachineView → Type 0
LendsNothing m = state_lends m.code m.state ≡ false

-- The image of the machine's state, its range, and a stack for its code. The text has fewer than 2^32 bytes, and tags
-- and words of the cells have 32 bits.
pub record IsPaused (m : MachineView) (p : Paused) : Type 0 where
  pub image : p.image.items ≡ image_text (image_of (kept m.code m.state))
  pub short : length p.image.items < 4294967296
  pub four : AllByRecursion HasFourWords m.state.cells
  pub formed : AllByRecursion CellIsFormed (map cell_of m.state.cells)
  pub span : p.span ≡ range_of m
  pub stack : IsStackFor m.code p.stack
