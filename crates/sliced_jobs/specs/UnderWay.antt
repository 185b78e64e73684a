-- Private: words for functions of this crate.
-- A run between two slices: where the run of its plan stands without any pause, and what text it goes on from.
use Rattle.std.specs.Prelude.{◌≡◌, ℕ, ◌+◌, ◌≤◌, false, List, map, slice_get, Option, Some, None}
use Rattle.std.specs.List.{AllByRecursion}
use Rattle.grail_code.specs.Code.{Func, Code}
use Rattle.licence.specs.Licensed.{Licensed, IsLicensed}
use Rattle.machine_image.specs.Images.{CellIsFormed, image_text}
use Rattle.machine_image.specs.Words.{cell_of}
use Rattle.cell_machine.specs.Dead.{live, live_machine}
use Rattle.cell_machine.specs.Loading.{steps}
use Rattle.cell_machine.specs.Plans.{IsPlan}
use Rattle.cell_machine.specs.Saved.{kept}
use Rattle.cell_machine.specs.State.{Configuration, Running, most_calls}
use Rattle.job_world.specs.Plans.{Plan}
use Rattle.pause_image.specs.Keeping.{IsKeepable}
use Rattle.pause_image.specs.Pausing.{HasFourWords, image_of}
use Rattle.pause_image.specs.Slicing.{state_lends}
use Rattle.sliced_jobs.specs.Slices.{TakesSlices, beginning}

-- a plan that fits this licence, whose entry is this function, with fuel that an image can tell
pub record IsPlanOf (l : Licensed) (f : Func) (p : Plan) : Type 0 where
  pub licensed : IsLicensed l
  pub func : slice_get l.code.funcs p.entry ≡ Some f
  pub plan : IsPlan l p.entry p.args p.fuel p.lease
  pub few : p.lease ≤ 2147483648
  pub fuel : p.fuel ≤ 1099511627776

-- the two go on alike but for dead words
abbrev pub GoesAs : Code → (r s : Configuration) → Type 0
GoesAs p r s = (n : ℕ) → live_machine p (steps p most_calls n (Running r)) ≡ live_machine p (steps p most_calls n (Running s))

-- the text is that of a state that is this one but for dead words
pub record IsTextOf (l : Licensed) (s : Configuration) (text : List ℕ) : Type 0 where
  pub told : Configuration
  pub same : live l.code told ≡ live l.code s
  pub keepable : IsKeepable l told
  pub unlent : state_lends l.code told ≡ false
  pub is : text ≡ image_text (image_of (kept l.code told))
  pub four : AllByRecursion HasFourWords told.cells
  pub formed : AllByRecursion CellIsFormed (map cell_of told.cells)

-- the run begins, or goes on from a text
abbrev pub IsFrom : Licensed → Func → Plan → Configuration → Option (List ℕ) → Type 0
IsFrom l f p s None = s ≡ beginning l f p
IsFrom l f p s (Some text) = IsTextOf l s text

-- So many slices were made of the run, and it goes on from here.
pub record IsUnderWay (asked : ℕ) (l : Licensed) (f : Func) (p : Plan) (made : ℕ) (image : Option (List ℕ)) : Type 0 where
  pub state : Configuration
  pub count : ℕ
  pub are : steps l.code most_calls count (Running (beginning l f p)) ≡ Running state
  pub many : made ≤ count
  pub slices : (n : ℕ) → TakesSlices l.code asked n state → TakesSlices l.code asked (made + n) (beginning l f p)
  pub from : IsFrom l f p state image
