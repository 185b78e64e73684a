-- Cited by contracts.
-- Endings of jobs, by their numbers.
use Rattle.std.specs.Prelude.{◌≡◌, ℕ, ◌<◌, List, length, slice_get, Option, Some}
use Rattle.camelot_values.specs.Value.{Value}
use Rattle.camelot_values.specs.Outcome.{Outcome}
use Rattle.job_world.specs.Plans.{Planned, job_run}

-- as far as they are kept: what may be kept of a run that comes to this
module _ {K : Type 0} (keeps : Outcome Value → K → Type 0) where
  -- there is an ending, the one that the meaning of the job's own plan says
  pub record HasEnding (ps : Planned) (job : ℕ) (found : Option (Option K)) : Type 0 where
    pub ending : K
    pub is : found ≡ Some (Some ending)
    pub meant : keeps (job_run ps job) ending

  -- one for each job
  abbrev pub AllEnded : Planned → List (Option K) → Type 0
  AllEnded ps endings = (job : ℕ) → job < length ps.plans → HasEnding ps job (slice_get endings job)
