-- Cited by contracts.
-- What a job asks for: the call that comes of it, or why it is refused.
use Rattle.std.specs.Prelude.{◌≡◌, ℕ, List, slice_get, Option, Some, Result, Ok, Err}
use Rattle.grail_code.specs.Meaning.{run_of}
use Rattle.licence.specs.Licensed.{Licensed}
use Rattle.cell_machine.specs.State.{most_calls}
use Rattle.run_reports.specs.declared.outcome.JobCause.{JobCause}
use Rattle.job_world.specs.declared.call.Call.{Call as DeclaredCall}
use Rattle.script_plans.specs.Programs.{ProgramText, value_types}
use Rattle.script_plans.specs.Fates.{Call, Unfit, Calls, IsFate, IsWithinBound, outcome_of, bound_of, lease_of}
use Rattle.script_plans.specs.CallPlans.{IsLicensedCall}

-- The job's fate is a call, and this is it: its licence is the one of this number, its function, arguments, bound and
-- lease are the call's, and its fuel is the one given. It can be planned: its licence grants its code, and its
-- arguments fit. A run of that code is what the program means, within the bound.
pub record IsCalled (licences : List Licensed) (p : Option ProgramText) (name text : List ℕ) (given : ℕ) (call : DeclaredCall) : Type 0 where
  pub c : Call
  pub is : IsFate p name text (Calls c)
  pub licence : slice_get licences call.licence ≡ Some c.licence
  pub entry : call.entry ≡ c.entry
  pub args : call.args.items ≡ c.args
  pub bound : call.needs.bound ≡ bound_of c
  pub lease : call.needs.lease ≡ lease_of c
  pub fuel : call.fuel ≡ given
  pub licensed : IsLicensedCall c
  pub types : c.licence.code.types ≡ value_types c.meaning
  pub run : run_of c.licence.code most_calls c.entry given c.args ≡ outcome_of c given
  pub within : IsWithinBound given (Calls c)

-- the job's call, or the cause for which it is refused
abbrev pub IsAsked : List Licensed → Option ProgramText → (name text : List ℕ) → (fuel : ℕ) → Result DeclaredCall JobCause → Type 0
IsAsked licences p name text fuel (Ok call) = IsCalled licences p name text fuel call
IsAsked licences p name text fuel (Err cause) = IsFate p name text (Unfit cause)
