-- Cited by contracts.
-- What comes of each program and of each job of a script, by the meaning of programs. What comes of a job depends on
-- its own entry, fuel and arguments, on the text and the language of its program, and on the arena, and on nothing
-- else: no other job and no other program stands in these definitions.
use Rattle.std.specs.Prelude.{◌≡◌, ℕ, ◌≤◌, nat_lt, if◌then◌else◌, List, [], ◌∷◌, slice_get, Option, Some, None}
use Rattle.camelot_values.specs.Value.{Value}
use Rattle.camelot_values.specs.Names.{place_among}
use Rattle.camelot_values.specs.Outcome.{Outcome, peak_of}
use Rattle.camelot_values.specs.declared.kinds.Kind.{Kind}
use Rattle.cell_span.specs.declared.cell.Cell.{Cell}
use Rattle.grail_code.specs.Code.{Func}
use Rattle.value_text.specs.Grammar.{IsRead, IsTooLong, IsBadShape}
use Rattle.licence.specs.Bound.{bound, lease}
use Rattle.licence.specs.Licensed.{Licensed}
use Rattle.cell_machine.specs.State.{most_calls}
use Rattle.cell_machine.specs.Loading.{last_cells}
use Rattle.cause_texts.specs.declared.cause.Cause.{Cause}
use Rattle.run_reports.specs.declared.outcome.ProgramLine.{ProgramLine}
use Rattle.run_reports.specs.declared.outcome.ProgramLine.TheVariants as program
use Rattle.run_reports.specs.declared.outcome.JobCause.{JobCause}
use Rattle.run_reports.specs.declared.outcome.JobCause.TheVariants as job_cause
use Rattle.run_reports.specs.Told.{JobLine, Ended, TooLarge, Refused}
use Rattle.script_plans.specs.Programs.{ProgramText, Meaning, function_names, function_params, value_types, run_by, IsLicenceOf, IsRefusedFor}

-- ---- programs

-- the program has a licence, with so many units for a cell
pub record IsAccepted (p : ProgramText) (unit : ℕ) : Type 0 where
  pub licence : Licensed
  pub meaning : Meaning
  pub is : IsLicenceOf p licence meaning
  pub units : unit ≡ licence.cert.unit

-- the line of the program: it has a licence, or it is refused, for this cause
abbrev pub IsProgramLine : ProgramText → ProgramLine → Type 0
IsProgramLine p (program.Accepted unit) = IsAccepted p unit
IsProgramLine p (program.Refused cause) = IsRefusedFor p cause

-- ---- calls

-- the call of a function of a program that has a licence, on these arguments
pub record Call : Type 0 where
  pub meaning : Meaning
  pub licence : Licensed
  pub entry : ℕ
  pub args : List Value

-- what it comes to with so much fuel, by the meaning of the program
abbrev pub outcome_of : Call → (fuel : ℕ) → Outcome Value
outcome_of c fuel = run_by c.meaning c.entry fuel c.args

-- how many cells it takes at most beside those of its arguments, and how many with them
abbrev pub bound_of : Call → ℕ
bound_of c = bound c.licence.code c.licence.cert c.entry c.args

abbrev pub lease_of : Call → ℕ
lease_of c = lease c.licence.code c.licence.cert c.entry c.args

-- the cells that the machine leaves of its run with so much fuel, where the licence's code has this function
abbrev pub left_by : Call → (fuel : ℕ) → Option Func → List Cell
left_by c fuel None = []
left_by c fuel (Some f) = last_cells c.licence.code most_calls c.entry f c.args fuel (lease_of c)

-- the cells that the machine leaves of its run, as many as its lease has
abbrev pub cells_of : Call → (fuel : ℕ) → List Cell
cells_of c fuel = left_by c fuel (slice_get c.licence.code.funcs c.entry)

-- ---- jobs

-- a job is refused, or it calls a function of its program
pub data Fate : Type 0 where
  Unfit : JobCause → Fate
  Calls : Call → Fate

-- the program has a licence, and its first function of this name has this number and parameters of these kinds, of
-- which this is said
pub record OfEntry (p : ProgramText) (name : List ℕ) (Says : Meaning → Licensed → (entry : ℕ) → (params : List Kind) → Type 0) : Type 0 where
  pub meaning : Meaning
  pub licence : Licensed
  pub has : IsLicenceOf p licence meaning
  pub entry : ℕ
  pub named : place_among (function_names meaning) name ≡ Some entry
  pub params : List Kind
  pub is : slice_get (function_params meaning) entry ≡ Some params
  pub says : Says meaning licence entry params

-- the program has a licence, and no function of this name
pub record HasNoEntry (p : ProgramText) (name : List ℕ) : Type 0 where
  pub meaning : Meaning
  pub licence : Licensed
  pub has : IsLicenceOf p licence meaning
  pub none : place_among (function_names meaning) name ≡ None

-- the program is refused
pub record IsRefused (p : ProgramText) : Type 0 where
  pub cause : Cause
  pub is : IsRefusedFor p cause

-- the call of this entry on what this text of arguments is read as
pub record IsCall (text : List ℕ) (c : Call) (m : Meaning) (l : Licensed) (entry : ℕ) (params : List Kind) : Type 0 where
  pub args : List Value
  pub read : IsRead (value_types m) params text args
  pub is : c ≡ record { meaning = m; licence = l; entry = entry; args = args }

-- What comes of a job, by its program, where there is one of its name, the name of its entry and the text of its
-- arguments; the first of these that is so. There is no such program; it is refused; it has no such function; the
-- arguments are no text of values of its kinds; they have more than 65,536 nodes. Else the job calls that function.
abbrev pub IsFate : Option ProgramText → (entry args : List ℕ) → Fate → Type 0
IsFate None entry args (Unfit job_cause.NoProgram) = Unit {0}
IsFate (Some p) entry args (Unfit job_cause.ProgramRefused) = IsRefused p
IsFate (Some p) entry args (Unfit job_cause.NoEntry) = HasNoEntry p entry
IsFate (Some p) entry args (Unfit (job_cause.Argument at)) = OfEntry p entry (λ m l number params. IsBadShape (value_types m) params args at)
IsFate (Some p) entry args (Unfit (job_cause.Long items)) = OfEntry p entry (λ m l number params. IsTooLong (value_types m) params args items)
IsFate (Some p) entry args (Calls c) = OfEntry p entry (IsCall args c)
IsFate o entry args fate = ⊥

-- ---- lines

-- the line of a call that ran: what the meaning of its program says that it comes to
abbrev pub ended_line : (fuel : ℕ) → Call → JobLine
ended_line fuel c = Ended (value_types c.meaning) (outcome_of c fuel) fuel (bound_of c)

-- The line of a job by its fate: why it is refused; or that it needs more cells than the arena has; or what its call
-- comes to.
abbrev pub line_of : (arena fuel : ℕ) → Fate → JobLine
line_of arena fuel (Unfit cause) = Refused cause
line_of arena fuel (Calls c) = if nat_lt arena (lease_of c) then TooLarge (lease_of c) arena else ended_line fuel c

-- the job goes to the desk, and the size of its lease there
abbrev pub leases_of : (arena : ℕ) → Fate → List ℕ
leases_of arena (Unfit cause) = []
leases_of arena (Calls c) = if nat_lt arena (lease_of c) then [] else lease_of c ∷ []

-- the job goes to the desk, and the cells that the machine leaves in its lease
abbrev pub cells_left : (arena fuel : ℕ) → Fate → List (List Cell)
cells_left arena fuel (Unfit cause) = []
cells_left arena fuel (Calls c) = if nat_lt arena (lease_of c) then [] else cells_of c fuel ∷ []

-- the peak of its run is within its bound
abbrev pub IsWithinBound : (fuel : ℕ) → Fate → Type 0
IsWithinBound fuel (Unfit cause) = Unit {0}
IsWithinBound fuel (Calls c) = peak_of (outcome_of c fuel) ≤ bound_of c
