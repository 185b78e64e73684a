-- Private: words for functions of this crate.
-- One job: what its licence says of its call, what is planned, and what that adds to what was planned before.
use Rattle.std.specs.Prelude.{◌≡◌, ℕ, ◌<◌, ◌≤◌, List, [], ◌∷◌, ◌++◌, length, map, slice_get, Option, Some, Result, Ok, Err}
use Rattle.std.specs.List.{range_with_len}
use Rattle.camelot_values.specs.Value.{Value}
use Rattle.camelot_values.specs.Outcome.{peak_of}
use Rattle.grail_code.specs.Code.{Func}
use Rattle.grail_code.specs.Meaning.{run_of}
use Rattle.value_text.specs.Grammar.{AreNamed, IsRead, IsTooLong, IsBadShape}
use Rattle.value_text.specs.Inhabited.{Knows}
use Rattle.licence.specs.Bound.{bound, lease}
use Rattle.licence.specs.Licensed.{Licensed}
use Rattle.licence.specs.declared.bound.Needs.{Needs}
use Rattle.cell_machine.specs.State.{most_calls}
use Rattle.job_script.specs.Scripts.{Entry, AProgram, AJob}
use Rattle.job_world.specs.Plans.{Plan, Planned}
use Rattle.job_world.specs.Plans as world
use Rattle.run_reports.specs.declared.outcome.JobCause.{JobCause}
use Rattle.run_reports.specs.declared.outcome.JobCause.TheVariants as job_cause
use Rattle.script_plans.specs.declared.rows.Known.{Known}
use Rattle.script_plans.specs.declared.planning.Taken.{Taken}
use Rattle.job_world.specs.declared.call.Call.{Call as DeclaredCall}
use Rattle.script_plans.specs.declared.types.JobPlan.{JobPlan}
use Rattle.script_plans.specs.declared.types.JobPlan.TheVariants as plan
use Rattle.script_plans.specs.Programs.{ProgramText}
use Rattle.script_plans.specs.Fates.{Fate, IsFate, IsWithinBound, line_of, leases_of, cells_left}
use Rattle.script_plans.specs.Lines.{planned_line, planned_cells, run_of_plan, runs_of, run_number, places_with}
use Rattle.script_plans.specs.Rows.{Row, row_program, row_among}

-- ---- what a licence says of a call

-- the bound of a call of this function, which its peak is within, and its lease
pub record IsBoundOf (l : Licensed) (number : ℕ) (args : List Value) (needs : Needs) : Type 0 where
  pub is : needs.bound ≡ bound l.code l.cert number args
  pub leased : needs.lease ≡ lease l.code l.cert number args
  pub peak : (fuel : ℕ) → peak_of (run_of l.code most_calls number fuel args) ≤ needs.bound

-- what a text of arguments comes to at this function of the licence of number n: a call on what it is read as, or why
-- it isn't read
abbrev pub IsOfArgs : Licensed → (n number : ℕ) → Func → (text : List ℕ) → (fuel : ℕ) → Result DeclaredCall JobCause → Type 0
IsOfArgs l n number f text fuel (Ok call) = (call.licence ≡ n) × (call.entry ≡ number) × (call.fuel ≡ fuel) × IsRead l.code.types f.params text call.args.items × IsBoundOf l number call.args.items call.needs
IsOfArgs l n number f text fuel (Err (job_cause.Argument at)) = IsBadShape l.code.types f.params text at
IsOfArgs l n number f text fuel (Err (job_cause.Long items)) = IsTooLong l.code.types f.params text items
IsOfArgs l n number f text fuel (Err cause) = ⊥

-- the licence has this number, it is known which of its types have values, and its constructors have upper names
pub record IsUsable (licences : List Licensed) (k : Known) : Type 0 where
  pub licence : Licensed
  pub at : slice_get licences k.licence ≡ Some licence
  pub knows : Knows licence.code.types k.inhabited
  pub named : AreNamed licence.code.types

-- ---- what is planned

-- the plan is added where its lease is within the arena
abbrev pub IsAdded : (arena : ℕ) → Plan → (most : ℕ) → (old new : Planned) → JobPlan → Type 0
IsAdded arena p most old new (plan.Runs job bound) = (job ≡ length old.plans) × (bound ≡ most) × (p.lease ≤ arena) × (new.licences ≡ old.licences) × (new.plans ≡ old.plans ++ p ∷ [])
IsAdded arena p most old new (plan.TooLarge needs) = (needs ≡ p.lease) × (arena < p.lease) × (new ≡ old)
IsAdded arena p most old new (plan.Refused cause) = ⊥

-- the plan of a call
abbrev pub plan_for : (licence fuel : ℕ) → Licensed → (entry : ℕ) → List Value → Plan
plan_for licence fuel l entry args = record { licence = licence; entry = entry; args = args; fuel = fuel; lease = lease l.code l.cert entry args }

-- ---- what comes of a job

-- the place of what runs
abbrev pub places_by : JobPlan → ℕ → List ℕ
places_by (plan.Runs job bound) place = place ∷ []
places_by (plan.TooLarge needs) place = []
places_by (plan.Refused cause) place = []

-- The job has a fate, and what is planned is so: these plans are added, and the numbers of what runs are theirs.
-- Their leases are those of the fate, and so are the cells that are left in them, and the line.
pub record Comes (program : Option ProgramText) (entry args : List ℕ) (fuel arena : ℕ) (old new : Planned) (p : JobPlan) : Type 0 where
  pub fate : Fate
  pub is : IsFate program entry args fate
  pub within : IsWithinBound fuel fate
  pub licences : new.licences ≡ old.licences
  pub more : List Plan
  pub plans : new.plans ≡ old.plans ++ more
  pub leases : world.leases_of more ≡ leases_of arena fate
  pub runs : map (run_of_plan old.licences) more ≡ runs_of arena fuel fate
  pub cells : planned_cells old.licences more ≡ cells_left arena fuel fate
  pub numbers : run_number p ≡ range_with_len (length old.plans) (length more)
  pub places : (place : ℕ) → places_with (leases_of arena fate) place ≡ places_by p place
  pub line : planned_line new arena p ≡ line_of arena fuel fate

-- ---- from the jobs so far to one more

-- the jobs so far: the runs that are planned with their licences, a plan for each, and the place of each that runs
pub record Planning : Type 0 where
  pub jobs : Planned
  pub plans : List JobPlan
  pub asked : List ℕ

abbrev pub planning_of : Taken → Planning
planning_of t = record { jobs = t.jobs; plans = t.plans.items; asked = t.asked.items }

-- One job more is planned: its plan is the last one, and its place too where it runs.
pub record IsJobTaken (program : Option ProgramText) (entry args : List ℕ) (fuel arena place : ℕ) (old new : Planning) : Type 0 where
  pub p : JobPlan
  pub comes : Comes program entry args fuel arena old.jobs new.jobs p
  pub plans : new.plans ≡ old.plans ++ p ∷ []
  pub asked : new.asked ≡ old.asked ++ places_by p place

-- the same of an entry: nothing is done for a program
abbrev pub IsEntryTaken : List Row → (arena place : ℕ) → Entry → (old new : Planning) → Type 0
IsEntryTaken rows arena place (AProgram p) old new = new ≡ old
IsEntryTaken rows arena place (AJob j) old new = IsJobTaken (row_program (row_among rows j.program)) j.entry j.args j.fuel arena place old new
