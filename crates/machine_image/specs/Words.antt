-- Cited by contracts.
-- The image of a paused run that the code holds.
use Rattle.std.specs.Prelude.{map, length, get_or}
use Rattle.cell_span.specs.declared.cell.Cell.{Cell as DeclaredCell}
use Rattle.machine_image.specs.Images.{Counts, Bound, Frame, Cell, Image}
use Rattle.machine_image.specs.declared.state.Bound.{Bound as DeclaredBound}
use Rattle.machine_image.specs.declared.state.Frame.{Frame as DeclaredFrame}
use Rattle.machine_image.specs.declared.state.State.{State}

abbrev pub bound_of : DeclaredBound → Bound
bound_of b = record { local = b.local; word = b.word }

abbrev pub frame_of : DeclaredFrame → Frame
frame_of f = record { func = f.func; block = f.block; place = f.place; live = map bound_of f.live.items }

abbrev pub cell_of : DeclaredCell → Cell
cell_of c = record { tag = c.tag; w0 = get_or c.words 0 0; w1 = get_or c.words 1 0; w2 = get_or c.words 2 0; w3 = get_or c.words 3 0 }

-- a run has as many cells as it holds
abbrev pub counts_of_state : State → Counts
counts_of_state s = record { calls = s.calls; net = s.net; peak = s.peak; fuel = s.fuel; free = s.free; cells = length s.cells.items }

abbrev pub image_of : State → Image
image_of s = record { counts = counts_of_state s; frames = map frame_of s.frames.items; cells = map cell_of s.cells.items }
