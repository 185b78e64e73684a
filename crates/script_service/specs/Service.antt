-- Cited by contracts.
-- What comes of an input, and what `serve` writes for it.
use Rattle.std.specs.Prelude.{◌≡◌, ℕ, ◌++◌, List, slice_get, codes, decimal}
use Rattle.std.specs.List.{AllByRecursion}
use Rattle.job_script.specs.Scripts.{Script}
use Rattle.job_script.specs.Text.{IsScriptText}
use Rattle.job_script.specs.Made.{made_script}
use Rattle.job_script.specs.Answers.{HasCause}
use Rattle.job_script.specs.declared.reading.ScriptFault.{ScriptFault}
use Rattle.job_script.specs.declared.reading.ScriptFault.TheVariants as script_fault
use Rattle.lease_desk.specs.declared.event.Event.{Event}
use Rattle.lease_desk.specs.Journal.{IsLegal}
use Rattle.lease_desk.specs.Filing.{FiledCells, HoldsFiled}
use Rattle.cell_span.specs.Range.{Range, IsWhole}
use Rattle.run_reports.specs.declared.outcome.ProgramLine.{ProgramLine}
use Rattle.run_reports.specs.Told.{TellsMeaning, Told}
use Rattle.run_reports.specs.Report.{report_text}
use Rattle.run_reports.specs.Summary.{summary_text}
use Rattle.script_plans.specs.Fates.{Fate}
use Rattle.script_plans.specs.Lines.{AreProgramLines, AreFates, lines_of, sizes_of, places_of, all_left}

-- ---- what comes of a script

-- what serving a script comes to: the script, a line for each of its programs, a fate for each of its jobs, the journal
-- of the desk, and the arena at the end
pub record Service : Type 0 where
  pub script : Script
  pub programs : List ProgramLine
  pub fates : List Fate
  pub journal : List Event
  pub arena : Range

-- the cells that the machine leaves in the lease of the desk's job of this number, by the fates
abbrev pub cells_by : Service → FiledCells
cells_by s = λ job. slice_get (all_left s.script.arena s.script.items s.fates) job

-- What comes of programs and jobs. Each program has its own line: its unit, where it is compiled from its source or
-- accepted from its bundle's bytes alone, or its cause. Each job has its own fate, and each run comes to something.
pub record IsAnswered (script : Script) (programs : List ProgramLine) (fates : List Fate) : Type 0 where
  pub are_programs : AreProgramLines script.items programs
  pub are_fates : AreFates script.items script.items fates
  pub meant : AllByRecursion TellsMeaning (lines_of script.arena script.items fates)

-- The programs and the jobs are answered. The journal is legal for the leases of the jobs that went to the desk. The
-- arena is whole at the end: each cell is the one that the machine left there for the last job whose lease went over
-- it, and a blank one where none did.
pub record IsService (s : Service) : Type 0 where
  pub answered : IsAnswered s.script s.programs s.fates
  pub legal : IsLegal s.script.arena (sizes_of s.script.arena s.fates) s.journal
  pub whole : IsWhole s.arena
  pub size : s.arena.arena.cells ≡ s.script.arena
  pub cells : HoldsFiled (cells_by s) s.journal s.arena

-- The input is the text of the script, and of no other one, and this comes of it.
pub record IsServiceOf (input : List ℕ) (s : Service) : Type 0 where
  pub text : IsScriptText input s.script
  pub only : (t : Script) → IsScriptText input t → t ≡ s.script
  pub comes : IsService s

-- ---- the report

-- what is told of a script: its programs' lines, its jobs' lines by their fates, the journal, and the whole arena free
-- at the end
abbrev pub told_of : Script → List ProgramLine → List Fate → List Event → Told
told_of s programs fates journal = record {
  programs = programs;
  jobs = lines_of s.arena s.items fates;
  asked = places_of s.arena 0 s.items fates;
  journal = journal;
  free = s.arena;
}

abbrev pub report_of : Service → List ℕ
report_of s = report_text s.script.items (told_of s.script s.programs s.fates s.journal)

-- The output is the report of what comes of the input.
pub record IsReport (input output : List ℕ) : Type 0 where
  pub service : Service
  pub served : IsServiceOf input service
  pub is : output ≡ report_of service

-- The output is the report of what comes of the input, and this is the arena that it leaves: by the same fates as the
-- lines of jobs, and by the journal that is printed.
pub record IsReportIn (input output : List ℕ) (arena : Range) : Type 0 where
  pub service : Service
  pub served : IsServiceOf input service
  pub is : output ≡ report_of service
  pub left : arena ≡ service.arena

-- ---- the summary

abbrev pub summary_of : Service → List ℕ
summary_of s = summary_text (told_of s.script s.programs s.fates s.journal)

-- The output is the summary of what comes of the drill's script with so many jobs, on so many workers.
pub record IsSummary (jobs workers : ℕ) (output : List ℕ) : Type 0 where
  pub service : Service
  pub script : service.script ≡ made_script jobs workers
  pub comes : IsService service
  pub is : output ≡ summary_of service

-- ---- inputs that aren't served

-- what is told of the first wrong line of an input that is no script
unfoldable pub fault_text : ScriptFault → List ℕ
fault_text (script_fault.Line line) = codes "refused script line " ++ decimal line ++ codes " line\n"
fault_text (script_fault.Count line) = codes "refused script line " ++ decimal line ++ codes " count\n"
fault_text (script_fault.Repeat line) = codes "refused script line " ++ decimal line ++ codes " repeat\n"

-- the input is no script, for this fault
abbrev pub IsScriptFault : List ℕ → ScriptFault → Type 0
IsScriptFault input fault = HasCause input fault

-- the input is no script, and the output tells its first wrong line and what is wrong with it
pub record IsRefusal (input output : List ℕ) : Type 0 where
  pub fault : ScriptFault
  pub cause : IsScriptFault input fault
  pub is : output ≡ fault_text fault
