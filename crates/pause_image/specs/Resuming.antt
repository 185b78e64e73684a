-- Cited by contracts: `IsResumed`. The other words are for functions of this crate.
-- The machine that goes on from the image of a run.
use Rattle.std.specs.Prelude.{◌≡◌, ℕ, List, length}
use Rattle.licence.specs.Licensed.{Licensed}
use Rattle.text_lines.specs.Formats.{IsFault}
use Rattle.machine_image.specs.Images.{image_format}
use Rattle.cell_machine.specs.Running.{IsRunning}
use Rattle.cell_machine.specs.Saved.{Saved, configuration_of}
use Rattle.cell_machine.specs.Views.{MachineView}
use Rattle.pause_image.specs.Faults.{AreOwned, IsOwned, IsFreeFault, IsRight}
use Rattle.pause_image.specs.Keeping.{IsKeepable}
use Rattle.pause_image.specs.Owning.{IsValueFault, frames_ask, frames_cells}
use Rattle.pause_image.specs.declared.fault.ImageFault.{ImageFault}
use Rattle.pause_image.specs.declared.fault.ImageFault.TheVariants as fault
use Rattle.pause_image.specs.declared.resuming.Owned.{Owned}

-- The text is right, and the machine runs the licence's code in the state that it is the image of, with 0 in the place
-- of each word that no step reads. Its run isn't over, and it can be put aside again.
pub record IsResumed (l : Licensed) (text : List ℕ) (size : ℕ) (m : MachineView) : Type 0 where
  pub s : Saved
  pub right : IsRight l text size s
  pub state : m.state ≡ configuration_of l.code s
  pub code : m.code ≡ l.code
  pub running : IsRunning m
  pub keepable : IsKeepable l m.state

-- ---- on the way

abbrev pub IsLineOf : List ℕ → ImageFault → Type 0
IsLineOf text (fault.Line line) = IsFault image_format 0 text line
IsLineOf text fault = ⊥

-- there are so many free cells, and the frames ask for so many units
pub record OwnedIs (l : Licensed) (s : Saved) (o : Owned) : Type 0 where
  pub owned : IsOwned l s
  pub free : o.free ≡ length owned.free
  pub asked : o.asked ≡ frames_ask l s.frames owned.frames.values

-- a list that fails behind values that don't
pub record FailsBehind (l : Licensed) (s : Saved) (at : ℕ) : Type 0 where
  pub frames : AreOwned l s
  pub fault : IsFreeFault s.cells (frames_cells l.code s.cells s.frames frames.values) s.free at

abbrev pub OwnerFault : Licensed → Saved → ImageFault → Type 0
OwnerFault l s (fault.Value frame local) = IsValueFault l.code s.cells s.frames frame local
OwnerFault l s (fault.Free at) = FailsBehind l s at
OwnerFault l s fault = ⊥
