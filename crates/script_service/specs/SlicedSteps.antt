-- Private: words for functions of this crate.
-- What is written for a script that was read, whose jobs run in slices.
use Rattle.std.specs.Prelude.{◌≡◌, ℕ, List}
use Rattle.job_script.specs.Scripts.{Script}
use Rattle.run_reports.specs.declared.outcome.ProgramLine.{ProgramLine}
use Rattle.script_plans.specs.Fates.{Fate}
use Rattle.script_plans.specs.Lines.{all_runs, lines_of}
use Rattle.script_service.specs.Service.{IsAnswered}
use Rattle.script_service.specs.Sliced.{AllTake, sliced_text}

pub record IsSlicedOf (asked : ℕ) (script : Script) (output : List ℕ) : Type 0 where
  pub programs : List ProgramLine
  pub fates : List Fate
  pub slices : ℕ
  pub answered : IsAnswered script programs fates
  pub taken : AllTake asked (all_runs script.arena script.items fates) slices
  pub is : output ≡ sliced_text script.items programs (lines_of script.arena script.items fates) slices script.arena
