-- Private: words for functions of this crate.
-- One slice of a run: the machine before it, and how it went.
use Rattle.std.specs.Prelude.{◌≡◌, ℕ, ◌+◌, List, Option, Some, None}
use Rattle.std.specs.Global.{Vec}
use Rattle.grail_code.specs.Code.{Func}
use Rattle.grail_code.specs.Meaning.{run_of}
use Rattle.licence.specs.Licensed.{Licensed}
use Rattle.cell_machine.specs.Endings.{EndsWith}
use Rattle.cell_machine.specs.State.{most_calls}
use Rattle.cell_machine.specs.Saved.{Saved}
use Rattle.cell_machine.specs.Views.{MachineView}
use Rattle.cell_machine.specs.declared.machine.Ending.{Ending}
use Rattle.job_world.specs.Plans.{Plan}
use Rattle.pause_image.specs.Faults.{IsRight}
use Rattle.pause_image.specs.Keeping.{IsKeepable}
use Rattle.sliced_jobs.specs.Slices.{TakesSlices, beginning}
use Rattle.sliced_jobs.specs.UnderWay.{IsPlanOf, GoesAs, IsUnderWay}
use Rattle.sliced_jobs.specs.declared.job.Went.{Went}
use Rattle.sliced_jobs.specs.declared.job.Went.TheVariants as went

-- the text of an image
abbrev pub image_in : Option (Vec ℕ) → Option (List ℕ)
image_in None = None
image_in (Some text) = Some text.items

-- so many slices were made of the plan's run, which goes on from here
pub record HasRun (asked : ℕ) (l : Licensed) (p : Plan) (made : ℕ) (image : Option (List ℕ)) : Type 0 where
  pub f : Func
  pub is : IsPlanOf l f p
  pub way : IsUnderWay asked l f p made image

-- nothing is wrong with the text
pub record HasNoFault (l : Licensed) (text : List ℕ) (size : ℕ) : Type 0 where
  pub s : Saved
  pub right : IsRight l text size s

-- the machine goes on as the run
pub record IsReady (asked : ℕ) (l : Licensed) (p : Plan) (made : ℕ) (image : Option (List ℕ)) (m : MachineView) : Type 0 where
  pub run : HasRun asked l p made image
  pub code : m.code ≡ l.code
  pub keepable : IsKeepable l m.state
  pub goes : GoesAs l.code m.state run.way.state

-- the run took so many slices, and this is its ending
pub record HasEnded (asked : ℕ) (l : Licensed) (p : Plan) (number : ℕ) (ending : Ending) : Type 0 where
  pub f : Func
  pub is : IsPlanOf l f p
  pub takes : TakesSlices l.code asked number (beginning l f p)
  pub meant : EndsWith (run_of l.code most_calls p.entry p.fuel p.args) ending

-- the run is over behind one slice more, or goes on from a text, or memory ran out
abbrev pub WentOn : (asked : ℕ) (l : Licensed) (p : Plan) (made : ℕ) → Went → Type 0
WentOn asked l p made (went.Ended ending) = HasEnded asked l p (made + 1) ending
WentOn asked l p made (went.Paused text) = HasRun asked l p (made + 1) (Some text.items)
WentOn asked l p made went.Short = Unit {0}
