-- Private: words for functions of this crate.
-- What the runs of a licence share: what their images are judged by, and a stack.
use Rattle.std.specs.Prelude.{◌≡◌, ℕ, List, slice_get, Option, Some}
use Rattle.licence.specs.Licensed.{Licensed}
use Rattle.cell_machine.specs.Views.{IsStackFor}
use Rattle.pause_image.specs.Judges.{IsJudgeOf}
use Rattle.sliced_jobs.specs.declared.kit.Kit.{Kit}

-- it is one for the runs of this licence
pub record IsKitFor (l : Licensed) (k : Kit) : Type 0 where
  pub judge : IsJudgeOf l k.judge
  pub stack : IsStackFor l.code k.stack

-- each that is there is one for the licence of its number
abbrev pub AreKits : List Licensed → List (Option Kit) → Type 0
AreKits licences kits = (number : ℕ) (l : Licensed) (k : Kit) → slice_get licences number ≡ Some l → slice_get kits number ≡ Some (Some k) → IsKitFor l k
