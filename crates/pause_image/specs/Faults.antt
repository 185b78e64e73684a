-- Cited by contracts.
-- What is wrong with a text that is handed in as the image of a run, for a licence and a range of so many cells. The
-- seven causes stand in their order: each comes where none before it does, and at its first place.
use Rattle.std.specs.Prelude.{◌≡◌, ℕ, suc, ℤ, pos, negsuc, ◌+◌, ◌/◌, ◌≤◌, ◌<◌, List, [], length, slice_get, Some}
use Rattle.std.specs.List.{AllByRecursion}
use Rattle.cell_span.specs.declared.cell.Cell.{Cell}
use Rattle.camelot_values.specs.Value.{Value}
use Rattle.licence.specs.Books.{book_of}
use Rattle.licence.specs.Licensed.{Licensed}
use Rattle.text_lines.specs.Formats.{IsText, IsFault}
use Rattle.machine_image.specs.Images.{image_format}
use Rattle.cell_machine.specs.Cells.{free_cell, no_cell}
use Rattle.cell_machine.specs.Saved.{Saved}
use Rattle.cell_machine.specs.Stands.{IsFreeList, times}
use Rattle.cell_owners.specs.FreeLists.{LeadsTo}
use Rattle.pause_image.specs.declared.fault.ImageFault.{ImageFault}
use Rattle.pause_image.specs.declared.fault.ImageFault.TheVariants as fault
use Rattle.pause_image.specs.Owning.{AreOwnFrames, frames_cells, frames_ask, IsValueFault}
use Rattle.pause_image.specs.Pausing.{HasFourWords, image_of}
use Rattle.pause_image.specs.Shapes.{AreShaped, IsShapeFault}

-- ---- the text

-- the text is that of what was kept
pub record IsImageOf (bytes : List ℕ) (s : Saved) : Type 0 where
  pub text : IsText image_format bytes (image_of s)
  pub four : AllByRecursion HasFourWords s.cells

-- the same, with as many cells as the range has
pub record IsSized (text : List ℕ) (len : ℕ) (s : Saved) : Type 0 where
  pub image : IsImageOf text s
  pub size : length s.cells ≡ len

-- ---- the free list

-- The first offset of the list that isn't one of its cells. The list leads to it through free cells, each once and none
-- of those that were taken before, and doesn't end there. If a free cell is at it, that one was met before.
pub record IsFreeFault (cells : List Cell) (before : List ℕ) (head at : ℕ) : Type 0 where
  pub met : List ℕ
  pub leads : LeadsTo cells head met at
  pub once : (x : ℕ) → times x before + times x met ≤ 1
  pub goes_on : at ≡ no_cell → ⊥
  pub fails : (next : ℕ) → slice_get cells at ≡ Some (free_cell next) → 1 ≤ times at before + times at met

-- ---- who owns the cells

-- all frames have their shape and their values
pub record AreOwned (l : Licensed) (s : Saved) : Type 0 where
  pub shaped : AreShaped l s.frames
  pub values : List (List Value)
  pub own : AreOwnFrames l.code s.cells [] s.frames values

-- beside them a free list
pub record IsOwned (l : Licensed) (s : Saved) : Type 0 where
  pub frames : AreOwned l s
  pub free : List ℕ
  pub runs : IsFreeList s.cells s.free free
  pub once : (x : ℕ) → times x (frames_cells l.code s.cells s.frames frames.values) + times x free ≤ 1

-- the cells that the frames ask for, by what is kept for them in units
abbrev pub cells_asked : (l : Licensed) (s : Saved) → IsOwned l s → ℕ
cells_asked l s o = frames_ask l s.frames o.frames.values / (book_of l.cert).unit

-- ---- counters

-- net and free cells together are from 0 to the number of cells
abbrev pub IsWithin : (net : ℤ) → (free size : ℕ) → Type 0
IsWithin (pos n) free size = n + free ≤ size
IsWithin (negsuc n) free size = (suc n ≤ free) × (free ≤ size + suc n)

-- ---- the seven causes

pub record IsSizeFault (text : List ℕ) (size count room : ℕ) : Type 0 where
  pub s : Saved
  pub image : IsImageOf text s
  pub cells : count ≡ length s.cells
  pub len : room ≡ size
  pub differ : count ≡ room → ⊥

pub record HasShapeFault (l : Licensed) (text : List ℕ) (size frame : ℕ) : Type 0 where
  pub s : Saved
  pub sized : IsSized text size s
  pub fault : IsShapeFault l s.frames frame

pub record HasValueFault (l : Licensed) (text : List ℕ) (size frame local : ℕ) : Type 0 where
  pub s : Saved
  pub sized : IsSized text size s
  pub shaped : AreShaped l s.frames
  pub fault : IsValueFault l.code s.cells s.frames frame local

pub record HasFreeFault (l : Licensed) (text : List ℕ) (size at : ℕ) : Type 0 where
  pub s : Saved
  pub sized : IsSized text size s
  pub frames : AreOwned l s
  pub fault : IsFreeFault s.cells (frames_cells l.code s.cells s.frames frames.values) s.free at

pub record IsShort (l : Licensed) (text : List ℕ) (size count asked : ℕ) : Type 0 where
  pub s : Saved
  pub sized : IsSized text size s
  pub owned : IsOwned l s
  pub free : count ≡ length owned.free
  pub need : asked ≡ cells_asked l s owned
  pub short : count < asked

pub record HasNetFault (l : Licensed) (text : List ℕ) (size : ℕ) (z : ℤ) (count : ℕ) : Type 0 where
  pub s : Saved
  pub sized : IsSized text size s
  pub owned : IsOwned l s
  pub free : count ≡ length owned.free
  pub enough : cells_asked l s owned ≤ count
  pub net : z ≡ s.net
  pub outside : IsWithin z count size → ⊥

abbrev pub IsFaultOf : Licensed → (text : List ℕ) → (size : ℕ) → ImageFault → Type 0
IsFaultOf l text size (fault.Line line) = IsFault image_format 0 text line
IsFaultOf l text size (fault.Size cells len) = IsSizeFault text size cells len
IsFaultOf l text size (fault.Shape frame) = HasShapeFault l text size frame
IsFaultOf l text size (fault.Value frame local) = HasValueFault l text size frame local
IsFaultOf l text size (fault.Free at) = HasFreeFault l text size at
IsFaultOf l text size (fault.Short free need) = IsShort l text size free need
IsFaultOf l text size (fault.Net net free) = HasNetFault l text size net free

-- nothing is wrong: the frames can be paid for, and the counters add up
pub record IsRight (l : Licensed) (text : List ℕ) (size : ℕ) (s : Saved) : Type 0 where
  pub sized : IsSized text size s
  pub owned : IsOwned l s
  pub enough : cells_asked l s owned ≤ length owned.free
  pub within : IsWithin s.net (length owned.free) size
