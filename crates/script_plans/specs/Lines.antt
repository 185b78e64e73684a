-- Cited by contracts.
-- All programs and all jobs of a script.
use Rattle.std.specs.Prelude.{◌≡◌, ◌⊎◌, ℕ, suc, nat_lt, if◌then◌else◌, List, [], ◌∷◌, ◌++◌, length, map, slice_get, Option, Some, None}
use Rattle.std.specs.List.{range_with_len}
use Rattle.camelot_values.specs.Kinds.{DataType}
use Rattle.camelot_values.specs.Value.{Value}
use Rattle.cell_span.specs.declared.cell.Cell.{Cell}
use Rattle.licence.specs.Licensed.{Licensed}
use Rattle.job_script.specs.Scripts.{Job, Entry, AProgram, AJob, Script}
use Rattle.run_reports.specs.declared.outcome.ProgramLine.{ProgramLine}
use Rattle.run_reports.specs.Told.{JobLine, Ended, TooLarge, Refused, licence_types}
use Rattle.job_world.specs.Plans.{Plan, Planned, job_run, cells_with}
use Rattle.job_world.specs.Plans as world
use Rattle.script_plans.specs.declared.types.JobPlan.{JobPlan}
use Rattle.script_plans.specs.declared.types.JobPlan.TheVariants as plan
use Rattle.script_plans.specs.Programs.{program_of, program_named}
use Rattle.script_plans.specs.Fates.{Call, Fate, Unfit, Calls, IsProgramLine, IsFate, IsWithinBound, lease_of, line_of, leases_of, cells_left}

-- each program of these entries has its own line
abbrev pub AreProgramLines : List Entry → List ProgramLine → Type 0
AreProgramLines [] [] = Unit {0}
AreProgramLines (AProgram p ∷ entries) (line ∷ lines) = IsProgramLine (program_of p) line × AreProgramLines entries lines
AreProgramLines (AJob j ∷ entries) lines = AreProgramLines entries lines
AreProgramLines entries lines = ⊥

-- each job of these entries has its own fate, with the programs of the whole script; its peak is within its bound
abbrev pub AreFates : (script : List Entry) → List Entry → List Fate → Type 0
AreFates script [] [] = Unit {0}
AreFates script (AProgram p ∷ entries) fates = AreFates script entries fates
AreFates script (AJob j ∷ entries) (fate ∷ fates) = IsFate (program_named script j.program) j.entry j.args fate × IsWithinBound j.fuel fate × AreFates script entries fates
AreFates script entries fates = ⊥

-- the lines of the jobs, one for each
abbrev pub lines_of : (arena : ℕ) → List Entry → List Fate → List JobLine
lines_of arena [] fates = []
lines_of arena (AProgram p ∷ entries) fates = lines_of arena entries fates
lines_of arena (AJob j ∷ entries) [] = lines_of arena entries []
lines_of arena (AJob j ∷ entries) (fate ∷ fates) = line_of arena j.fuel fate ∷ lines_of arena entries fates

-- this line is that of this job, where these lines stand for the jobs of these entries, in order
abbrev pub IsLineOf : List Entry → List JobLine → Job → JobLine → Type 0
IsLineOf (AProgram p ∷ entries) lines job line = IsLineOf entries lines job line
IsLineOf (AJob j ∷ entries) (first ∷ lines) job line = ((j ≡ job) × (first ≡ line)) ⊎ IsLineOf entries lines job line
IsLineOf entries lines job line = ⊥

-- The script has this job and tells this line of it, as its report does: the line by the job's own fate.
pub record TellsOf (s : Script) (job : Job) (line : JobLine) : Type 0 where
  pub fates : List Fate
  pub are : AreFates s.items s.items fates
  pub is : IsLineOf s.items (lines_of s.arena s.items fates) job line

-- The scripts have arenas of the same size, and the same program under the name of this job's program: in the same
-- language with the same text, or none.
pub record Agree (one other : Script) (job : Job) : Type 0 where
  pub arena : one.arena ≡ other.arena
  pub program : program_named one.items job.program ≡ program_named other.items job.program

-- the leases of the jobs that go to the desk, in order
abbrev pub sizes_of : (arena : ℕ) → List Fate → List ℕ
sizes_of arena [] = []
sizes_of arena (fate ∷ fates) = leases_of arena fate ++ sizes_of arena fates

-- their places among the script's entries, the first of which stands at this place
abbrev pub places_with : List ℕ → ℕ → List ℕ
places_with [] place = []
places_with (size ∷ sizes) place = place ∷ []

abbrev pub places_of : (arena : ℕ) → (place : ℕ) → List Entry → List Fate → List ℕ
places_of arena place [] fates = []
places_of arena place (AProgram p ∷ entries) fates = places_of arena (suc place) entries fates
places_of arena place (AJob j ∷ entries) [] = []
places_of arena place (AJob j ∷ entries) (fate ∷ fates) = places_with (leases_of arena fate) place ++ places_of arena (suc place) entries fates

-- the cells that the machine leaves in these leases, in the same order
abbrev pub all_left : (arena : ℕ) → List Entry → List Fate → List (List Cell)
all_left arena [] fates = []
all_left arena (AProgram p ∷ entries) fates = all_left arena entries fates
all_left arena (AJob j ∷ entries) [] = []
all_left arena (AJob j ∷ entries) (fate ∷ fates) = cells_left arena j.fuel fate ++ all_left arena entries fates

-- ---- plans

-- the types of the licence of this plan, and its fuel; nothing where there is no plan
abbrev pub types_at : List Licensed → Option Plan → List DataType
types_at licences None = []
types_at licences (Some p) = licence_types (slice_get licences p.licence)

abbrev pub fuel_at : Option Plan → ℕ
fuel_at None = 0
fuel_at (Some p) = p.fuel

-- The line of what is planned. Of a run it is what the meaning of the code of its job says that it comes to, with the
-- job's own types and fuel.
abbrev pub planned_line : Planned → (arena : ℕ) → JobPlan → JobLine
planned_line ps arena (plan.Runs job bound) = Ended (types_at ps.licences (slice_get ps.plans job)) (job_run ps job) (fuel_at (slice_get ps.plans job)) bound
planned_line ps arena (plan.TooLarge needs) = TooLarge needs arena
planned_line ps arena (plan.Refused cause) = Refused cause

-- one for each
abbrev pub planned_lines : Planned → (arena : ℕ) → List JobPlan → List JobLine
planned_lines ps arena plans = map (planned_line ps arena) plans

-- the number of the job, where one runs
abbrev pub run_number : JobPlan → List ℕ
run_number (plan.Runs job bound) = job ∷ []
run_number (plan.TooLarge needs) = []
run_number (plan.Refused cause) = []

-- the numbers of the jobs that run, in the order of the plans
abbrev pub run_numbers : List JobPlan → List ℕ
run_numbers [] = []
run_numbers (p ∷ plans) = run_number p ++ run_numbers plans

-- the cells that the machine leaves of these plans, one for each
abbrev pub planned_cells : List Licensed → List Plan → List (List Cell)
planned_cells licences plans = map (λ (p : Plan). cells_with (slice_get licences p.licence) p) plans

-- ---- runs

-- what runs: an entry of a licence's code, on these arguments, with so much fuel, in so many cells
pub record JobRun : Type 0 where
  pub licence : Option Licensed
  pub entry : ℕ
  pub args : List Value
  pub fuel : ℕ
  pub lease : ℕ

-- by a plan, whose licence has a number among these
abbrev pub run_of_plan : List Licensed → Plan → JobRun
run_of_plan licences p = record { licence = slice_get licences p.licence; entry = p.entry; args = p.args; fuel = p.fuel; lease = p.lease }

-- by a call
abbrev pub run_of_call : (fuel : ℕ) → Call → JobRun
run_of_call fuel c = record { licence = Some c.licence; entry = c.entry; args = c.args; fuel = fuel; lease = lease_of c }

-- the job goes to the desk, and what runs
abbrev pub runs_of : (arena fuel : ℕ) → Fate → List JobRun
runs_of arena fuel (Unfit cause) = []
runs_of arena fuel (Calls c) = if nat_lt arena (lease_of c) then [] else run_of_call fuel c ∷ []

-- of all jobs, in order
abbrev pub all_runs : (arena : ℕ) → List Entry → List Fate → List JobRun
all_runs arena [] fates = []
all_runs arena (AProgram p ∷ entries) fates = all_runs arena entries fates
all_runs arena (AJob j ∷ entries) [] = []
all_runs arena (AJob j ∷ entries) (fate ∷ fates) = runs_of arena j.fuel fate ++ all_runs arena entries fates

-- ---- all that is planned

-- What is planned of the jobs of these entries is what comes of them. Each has a fate, and the leases, what runs in
-- them, the cells that are left there, the places and the lines of what is planned are those of the fates. The numbers of those that run
-- are 0, 1, 2 and so on in order, one for each job of the desk.
pub record ArePlanned (arena : ℕ) (script : List Entry) (ps : Planned) (plans : List JobPlan) (asked : List ℕ) : Type 0 where
  pub fates : List Fate
  pub are : AreFates script script fates
  pub leases : world.leases_of ps.plans ≡ sizes_of arena fates
  pub runs : map (run_of_plan ps.licences) ps.plans ≡ all_runs arena script fates
  pub cells : planned_cells ps.licences ps.plans ≡ all_left arena script fates
  pub places : asked ≡ places_of arena 0 script fates
  pub lines : planned_lines ps arena plans ≡ lines_of arena script fates
  pub numbers : run_numbers plans ≡ range_with_len 0 (length ps.plans)
