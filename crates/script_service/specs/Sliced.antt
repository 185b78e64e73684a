-- Cited by contracts.
-- What comes of a script whose jobs run in slices, and what is written for it.
use Rattle.std.specs.Prelude.{◌≡◌, ℕ, List, [], ◌∷◌, ◌++◌, slice_get, Some, sum, codes, decimal}
use Rattle.grail_code.specs.Code.{Func}
use Rattle.licence.specs.Licensed.{Licensed}
use Rattle.cell_machine.specs.Loading.{begun}
use Rattle.sliced_jobs.specs.Slices.{TakesSlices}
use Rattle.job_script.specs.Scripts.{Script, Entry}
use Rattle.job_script.specs.Text.{IsScriptText}
use Rattle.run_reports.specs.declared.outcome.ProgramLine.{ProgramLine}
use Rattle.run_reports.specs.Told.{JobLine}
use Rattle.run_reports.specs.Report.{head_text, end_text}
use Rattle.script_plans.specs.Fates.{Fate}
use Rattle.script_plans.specs.Lines.{JobRun, all_runs, lines_of}
use Rattle.script_service.specs.Service.{IsAnswered}

-- ---- how many slices

-- The run takes so many slices, each of so many steps and of as many more as it takes until nothing is lent, by the
-- machine's own steps from the state in which it begins. Neither other jobs nor pauses stand in this.
pub record RunTakes (asked : ℕ) (r : JobRun) (number : ℕ) : Type 0 where
  pub l : Licensed
  pub licence : r.licence ≡ Some l
  pub f : Func
  pub func : slice_get l.code.funcs r.entry ≡ Some f
  pub takes : TakesSlices l.code asked number (begun l.code r.entry f r.args r.fuel r.lease)

-- one number for each run
abbrev pub RunsTake : (asked : ℕ) → List JobRun → List ℕ → Type 0
RunsTake asked [] [] = Unit {0}
RunsTake asked [] (n ∷ ns) = ⊥
RunsTake asked (r ∷ rs) [] = ⊥
RunsTake asked (r ∷ rs) (n ∷ ns) = RunTakes asked r n × RunsTake asked rs ns

-- all of them together take so many
pub record AllTake (asked : ℕ) (rs : List JobRun) (number : ℕ) : Type 0 where
  pub numbers : List ℕ
  pub each : RunsTake asked rs numbers
  pub all : number ≡ sum numbers

-- ---- what is written

abbrev pub slices_text : ℕ → List ℕ
slices_text number = (codes "slices " ++ decimal number) ++ codes "\n"

-- the lines of programs and of jobs, how many slices were made, and the whole arena free at the end
abbrev pub sliced_text : List Entry → List ProgramLine → List JobLine → (slices arena : ℕ) → List ℕ
sliced_text entries programs jobs slices arena = (head_text entries programs jobs ++ slices_text slices) ++ end_text arena

-- The input is the text of a script, and of no other one. Programs and jobs are answered as `serve` answers them, and
-- the jobs that run take so many slices.
pub record IsSlicedFor (asked : ℕ) (input : List ℕ) (script : Script) (programs : List ProgramLine) (fates : List Fate) (slices : ℕ) : Type 0 where
  pub text : IsScriptText input script
  pub only : (t : Script) → IsScriptText input t → t ≡ script
  pub answered : IsAnswered script programs fates
  pub taken : AllTake asked (all_runs script.arena script.items fates) slices

-- the output is what is written for what comes of the input
pub record IsSlicedReport (asked : ℕ) (input output : List ℕ) : Type 0 where
  pub script : Script
  pub programs : List ProgramLine
  pub fates : List Fate
  pub slices : ℕ
  pub comes : IsSlicedFor asked input script programs fates slices
  pub is : output ≡ sliced_text script.items programs (lines_of script.arena script.items fates) slices script.arena
