-- Private: words for functions of this crate.
-- Endings that plans find.
use Rattle.std.specs.Prelude.{◌<◌, List, length, slice_get, Option}
use Rattle.camelot_values.specs.Value.{Value}
use Rattle.camelot_values.specs.Outcome.{Outcome}
use Rattle.job_world.specs.Plans.{Planned}
use Rattle.job_workers.specs.Ended.{HasEnding}
use Rattle.script_plans.specs.declared.types.JobPlan.{JobPlan}
use Rattle.script_plans.specs.declared.types.JobPlan.TheVariants as plan

-- where a job runs, it is planned, and its ending is there, as far as it is kept
module _ {K : Type 0} where
  abbrev pub HasOwn : (keeps : Outcome Value → K → Type 0) → Planned → List (Option K) → JobPlan → Type 0
  HasOwn keeps ps endings (plan.Runs job bound) = (job < length ps.plans) × HasEnding keeps ps job (slice_get endings job)
  HasOwn keeps ps endings (plan.TooLarge needs) = Unit {0}
  HasOwn keeps ps endings (plan.Refused cause) = Unit {0}
