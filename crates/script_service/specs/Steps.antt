-- Private: words for functions of this crate.
-- What is handed out for a script that was read.
use Rattle.std.specs.Prelude.{◌≡◌}
use Rattle.camelot_values.specs.Value.{Value}
use Rattle.camelot_values.specs.Outcome.{Outcome}
use Rattle.job_script.specs.Scripts.{Script}
use Rattle.job_script.specs.Words.{script_of}
use Rattle.job_script.specs.declared.reading.ScriptFault.{ScriptFault}
use Rattle.stops.specs.declared.stop.Stop.{Stop}
use Rattle.stops.specs.declared.stop.Stop.TheVariants as stop
use Rattle.script_service.specs.Handed.{IsHanded}
use Rattle.script_service.specs.declared.service.ServeFault.{ServeFault}
use Rattle.script_service.specs.declared.service.ServeFault.TheVariants as fault
use Rattle.script_service.specs.declared.service.ServedScript.{ServedScript}

-- what is handed out is of this script
pub record IsOf {K : Type 0} (keeps : Outcome Value → K → Type 0) (script : Script) (s : ServedScript K) : Type 0 where
  pub same : script_of s.script ≡ script
  pub handed : IsHanded keeps s

abbrev pub serve_fault : Stop ScriptFault → ServeFault
serve_fault (stop.Fault x) = fault.NoScript x
serve_fault stop.Memory = fault.Memory
