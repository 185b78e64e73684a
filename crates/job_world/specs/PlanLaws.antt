-- Laws, for the proofs of this crate and of those above it.
-- What stands of a plan when others are planned behind it.
use Rattle.std.proofs.Common.{◌≡◌, ℕ, zero, suc, ◌<◌, List, [], ◌∷◌, ◌++◌, length, Some, refl, ap, arith}
use Rattle.std.specs.Prelude.{slice_get}
use Rattle.licence.specs.Licensed.{Licensed}
use Rattle.job_world.specs.Plans.{Plan, run_at, cells_at, job_run, job_cells}

pub front_stays : {A : Type 0} (xs more : List A) (i : ℕ) → i < length xs → slice_get (xs ++ more) i ≡ slice_get xs i
front_stays [] more i h = absurd (omega (arith, h))
front_stays (x ∷ xs) more zero h = refl
front_stays (x ∷ xs) more (suc i) h = front_stays xs more i (omega (arith, h))

-- what is behind is found behind
pub found_behind : {A : Type 0} (xs : List A) (y : A) (ys : List A) → slice_get (xs ++ y ∷ ys) (length xs) ≡ Some y
found_behind [] y ys = refl
found_behind (x ∷ xs) y ys = found_behind xs y ys

pub run_stays : (licences : List Licensed) (plans more : List Plan) (job : ℕ) → job < length plans
    → job_run (record { licences = licences; plans = plans ++ more }) job ≡ job_run (record { licences = licences; plans = plans }) job
unfolding job_run
run_stays licences plans more job h = ap (run_at licences) (front_stays plans more job h)

pub cells_stay : (licences : List Licensed) (plans more : List Plan) (job : ℕ) → job < length plans
    → job_cells (record { licences = licences; plans = plans ++ more }) job ≡ job_cells (record { licences = licences; plans = plans }) job
unfolding job_cells
cells_stay licences plans more job h = ap (cells_at licences) (front_stays plans more job h)
