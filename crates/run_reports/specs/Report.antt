-- Cited by contracts.
-- The report of a script: a line for each program, a line for each job, a line for each event of the journal, and the
-- free cells at the end.
use Rattle.std.specs.Prelude.{ℕ, List, [], ◌∷◌, ◌++◌, slice_get, Option, Some, None, codes, decimal}
use Rattle.camelot_values.specs.Value.{Value}
use Rattle.camelot_values.specs.Kinds.{DataType, constructor_name}
use Rattle.camelot_values.specs.Outcome.{Outcome, Done, Fuel, Deep, Trap, Stuck}
use Rattle.value_text.specs.Text.{value_text}
use Rattle.cause_texts.specs.Texts.{cause_text}
use Rattle.lease_desk.specs.declared.event.Event.{Event}
use Rattle.lease_desk.specs.declared.event.Event.TheVariants as event
use Rattle.job_script.specs.Scripts.{Entry, AProgram, AJob}
use Rattle.run_reports.specs.declared.outcome.ProgramLine.{ProgramLine}
use Rattle.run_reports.specs.declared.outcome.ProgramLine.TheVariants as program
use Rattle.run_reports.specs.declared.outcome.JobCause.{JobCause}
use Rattle.run_reports.specs.declared.outcome.JobCause.TheVariants as job_cause
use Rattle.run_reports.specs.Told.{JobLine, Ended, TooLarge, Refused, Told}

-- ---- lines

abbrev pub program_text : (name : List ℕ) → ProgramLine → List ℕ
program_text name (program.Accepted unit) = (codes "program " ++ name) ++ (codes " accepted unit " ++ decimal unit) ++ codes "\n"
program_text name (program.Refused cause) = (codes "program " ++ name) ++ (codes " refused " ++ cause_text cause) ++ codes "\n"

-- what the run of a job came to, behind its name; well-formed code is never stuck
unfoldable pub ended_text : List DataType → Outcome Value → (fuel bound : ℕ) → List ℕ
ended_text types (Done v calls peak low) fuel bound =
    (codes " done " ++ value_text (constructor_name types) v) ++ (codes " calls " ++ decimal calls) ++ (codes " peak " ++ decimal peak) ++ (codes " bound " ++ decimal bound)
ended_text types (Fuel calls peak) fuel bound = (codes " fuel " ++ decimal fuel) ++ (codes " peak " ++ decimal peak) ++ (codes " bound " ++ decimal bound)
ended_text types (Deep peak) fuel bound = (codes " deep peak " ++ decimal peak) ++ (codes " bound " ++ decimal bound)
ended_text types (Trap peak) fuel bound = (codes " trap peak " ++ decimal peak) ++ (codes " bound " ++ decimal bound)
ended_text types Stuck fuel bound = []

-- why a job doesn't run
unfoldable pub job_cause_text : JobCause → List ℕ
job_cause_text job_cause.NoProgram = codes "no-program"
job_cause_text job_cause.ProgramRefused = codes "program-refused"
job_cause_text job_cause.NoEntry = codes "no-entry"
job_cause_text (job_cause.Argument at) = codes "argument at " ++ decimal at
job_cause_text (job_cause.Long items) = codes "long items " ++ decimal items

abbrev pub told_text : JobLine → List ℕ
told_text (Ended types outcome fuel bound) = ended_text types outcome fuel bound
told_text (TooLarge needs arena) = (codes " too-large needs " ++ decimal needs) ++ (codes " arena " ++ decimal arena)
told_text (Refused cause) = codes " refused " ++ job_cause_text cause

abbrev pub job_text : (name : List ℕ) → JobLine → List ℕ
job_text name line = (codes "job " ++ name) ++ told_text line ++ codes "\n"

-- an event of the job of this name
unfoldable pub event_text : (name : ℕ → List ℕ) → Event → List ℕ
event_text name (event.Took job first size) = (codes "took " ++ name job) ++ (codes " first " ++ decimal first) ++ (codes " size " ++ decimal size) ++ codes "\n"
event_text name (event.Full job need largest) = (codes "full " ++ name job) ++ (codes " need " ++ decimal need) ++ (codes " largest " ++ decimal largest) ++ codes "\n"
event_text name (event.Gave job first size) = (codes "gave " ++ name job) ++ (codes " first " ++ decimal first) ++ (codes " size " ++ decimal size) ++ codes "\n"

abbrev pub end_text : ℕ → List ℕ
end_text free = (codes "end free " ++ decimal free) ++ codes "\n"

-- ---- all lines

-- a line for each program of the script
abbrev pub program_lines : List Entry → List ProgramLine → List ℕ
program_lines [] lines = []
program_lines (AProgram p ∷ entries) [] = program_lines entries []
program_lines (AProgram p ∷ entries) (line ∷ lines) = program_text p.name line ++ program_lines entries lines
program_lines (AJob j ∷ entries) lines = program_lines entries lines

-- a line for each job of the script
abbrev pub job_lines : List Entry → List JobLine → List ℕ
job_lines [] lines = []
job_lines (AProgram p ∷ entries) lines = job_lines entries lines
job_lines (AJob j ∷ entries) [] = job_lines entries []
job_lines (AJob j ∷ entries) (line ∷ lines) = job_text j.name line ++ job_lines entries lines

abbrev pub name_of : Option Entry → List ℕ
name_of None = []
name_of (Some (AProgram p)) = p.name
name_of (Some (AJob j)) = j.name

abbrev pub name_at : List Entry → Option ℕ → List ℕ
name_at entries None = []
name_at entries (Some place) = name_of (slice_get entries place)

-- the name of the desk's job of this number, which stands at this place among the script's entries
unfoldable pub asked_name : List Entry → (asked : List ℕ) → ℕ → List ℕ
asked_name entries asked job = name_at entries (slice_get asked job)

-- a line for each event
abbrev pub event_lines : (ℕ → List ℕ) → List Event → List ℕ
event_lines name [] = []
event_lines name (e ∷ es) = event_text name e ++ event_lines name es

-- ---- the report

-- the programs and the jobs
abbrev pub head_text : List Entry → List ProgramLine → List JobLine → List ℕ
head_text entries programs jobs = program_lines entries programs ++ job_lines entries jobs

unfoldable pub report_text : List Entry → Told → List ℕ
report_text entries told = head_text entries told.programs told.jobs ++ event_lines (asked_name entries told.asked) told.journal ++ end_text told.free
