-- Cited by contracts.
-- Answers that are filed.
use Rattle.std.specs.Prelude.{◌≡◌, ℕ, ◌<◌, List, length, slice_get, Option, Some, None}
use Rattle.job_world.specs.Plans.{Planned, job_run}
use Rattle.lease_desk.specs.declared.name.DeskName as desk_name
use Rattle.job_world.specs.declared.name.JobName as job_name
use Rattle.job_workers.specs.declared.kept.Kept as kept
use Rattle.job_workers.specs.declared.answer.Answer.{Answer}

-- answers of the jobs of a name
module _ {N K : Type 0} {j : job_name.Ghosts N} {d : desk_name.Ghosts N} {k : kept.Ghosts K} where
  -- there is an answer, of this job, and its ending is the one that the meaning of the job's own plan says
  pub record HasAnswer (ps : Planned) (job : ℕ) (payload : Option (Option (Answer N K j d k))) : Type 0 where
    pub answer : Answer N K j d k
    pub is : payload ≡ Some (Some answer)
    pub number : answer.job ≡ job
    pub meant : k.keeps (job_run ps job) answer.ending

  -- one for each job
  abbrev pub AllAnswered : Planned → List (Option (Answer N K j d k)) → Type 0
  AllAnswered ps payloads = (job : ℕ) → job < length ps.plans → HasAnswer ps job (slice_get payloads job)

  -- the ending of an answer that is there
  abbrev pub ending_in : Option (Answer N K j d k) → Option K
  ending_in None = None
  ending_in (Some answer) = Some answer.ending
