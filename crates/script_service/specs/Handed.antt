-- Cited by contracts.
-- What serving a script hands out, and why an input is refused.
use Rattle.std.specs.Prelude.{◌≡◌, ℕ, ◌≤◌, List, length}
use Rattle.camelot_values.specs.Value.{Value}
use Rattle.camelot_values.specs.Outcome.{Outcome}
use Rattle.cell_machine.specs.Endings.{EndsWith}
use Rattle.cell_machine.specs.declared.machine.Ending.{Ending}
use Rattle.job_script.specs.Scripts.{Script}
use Rattle.job_script.specs.Text.{IsScriptText}
use Rattle.job_script.specs.Words.{script_of}
use Rattle.job_workers.specs.Ended.{AllEnded}
use Rattle.script_plans.specs.Fates.{Fate}
use Rattle.script_plans.specs.Lines.{ArePlanned}
use Rattle.script_service.specs.Service.{Service, IsService, IsScriptFault}
use Rattle.script_service.specs.declared.service.ServeFault.{ServeFault}
use Rattle.script_service.specs.declared.service.ServeFault.TheVariants as fault
use Rattle.script_service.specs.declared.service.ServedScript.{ServedScript}

-- what it comes to, where the script's jobs have these fates
abbrev pub service_of : {K : Type 0} → ServedScript K → List Fate → Service
service_of s fates = record { script = script_of s.script; programs = s.plans.programs.items; fates = fates; journal = s.journal.items; arena = s.arena }

-- The runs are planned by the fates of the script's jobs, and what is handed out is what comes of the script by these;
-- each run has its ending, as far as it is kept.
pub record IsHanded {K : Type 0} (keeps : Outcome Value → K → Type 0) (s : ServedScript K) : Type 0 where
  pub planned : ArePlanned (script_of s.script).arena (script_of s.script).items s.plans.jobs s.plans.plans.items s.plans.asked.items
  pub few : length s.plans.jobs.plans ≤ 4096
  pub ended : AllEnded keeps s.plans.jobs s.endings.items
  pub comes : IsService (service_of s planned.fates)

-- The input is the text of the script, and of no other one, and this is handed out for it, with whole endings.
pub record IsHandedFor (input : List ℕ) (s : ServedScript Ending) : Type 0 where
  pub text : IsScriptText input (script_of s.script)
  pub only : (t : Script) → IsScriptText input t → t ≡ script_of s.script
  pub handed : IsHanded EndsWith s

-- why an input is refused; nothing is said of want of memory
abbrev pub IsRefused : List ℕ → ServeFault → Type 0
IsRefused input (fault.NoScript x) = IsScriptFault input x
IsRefused input fault.Memory = Unit {0}
