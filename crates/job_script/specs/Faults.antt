-- Private: words for functions of this crate.
-- Why a text isn't read that stops at a line.
use Rattle.std.specs.Prelude.{ℕ}
use Rattle.stops.specs.declared.stop.Stop.{Stop}
use Rattle.stops.specs.declared.stop.Stop.TheVariants.{Fault, Memory}
use Rattle.job_script.specs.declared.stop.LineStop.{LineStop}
use Rattle.job_script.specs.declared.stop.LineStop.TheVariants as stop
use Rattle.job_script.specs.declared.reading.ScriptFault.{ScriptFault}
use Rattle.job_script.specs.declared.reading.ScriptFault.TheVariants as fault

abbrev pub stop_of : LineStop → ℕ → Stop ScriptFault
stop_of stop.Line line = Fault (fault.Line line)
stop_of stop.Count line = Fault (fault.Count line)
stop_of stop.Repeat line = Fault (fault.Repeat line)
stop_of stop.Memory line = Memory
