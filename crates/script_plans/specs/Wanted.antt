-- Private: words for functions of this crate.
-- What entries ask for, before it is planned.
use Rattle.std.specs.Prelude.{List, [], ◌∷◌, Option, Some, None, Result, Ok}
use Rattle.licence.specs.Licensed.{Licensed}
use Rattle.job_script.specs.Scripts.{Entry, AProgram, AJob}
use Rattle.run_reports.specs.declared.outcome.JobCause.{JobCause}
use Rattle.job_world.specs.declared.call.Call.{Call as DeclaredCall}
use Rattle.script_plans.specs.Rows.{Row, row_among, row_program}
use Rattle.script_plans.specs.Asked.{IsAsked}
use Rattle.job_world.specs.Asking.{IsCall}

-- what an entry asks for; a program asks for nothing
abbrev pub IsWantedBy : List Licensed → List Row → Entry → Option (Result DeclaredCall JobCause) → Type 0
IsWantedBy licences rows (AProgram p) None = Unit {0}
IsWantedBy licences rows (AJob j) (Some a) = IsAsked licences (row_program (row_among rows j.program)) j.entry j.args j.fuel a
IsWantedBy licences rows entry o = ⊥

-- each of these entries asks for its own
abbrev pub AreWanted : List Licensed → List Row → List Entry → List (Option (Result DeclaredCall JobCause)) → Type 0
AreWanted licences rows [] [] = Unit {0}
AreWanted licences rows (e ∷ entries) (o ∷ all) = IsWantedBy licences rows e o × AreWanted licences rows entries all
AreWanted licences rows entries all = ⊥

-- it can be planned, where it is a call
abbrev pub CanBeTaken : List Licensed → Option (Result DeclaredCall JobCause) → Type 0
CanBeTaken licences (Some (Ok call)) = IsCall licences call
CanBeTaken licences o = Unit {0}
