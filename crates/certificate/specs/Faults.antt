-- Private: words for functions of this crate.
-- The stop of the reader, of a stop at a line.
use Rattle.std.specs.Prelude.{ℕ}
use Rattle.stops.specs.declared.stop.Stop.{Stop}
use Rattle.stops.specs.declared.stop.Stop.TheVariants.{Fault, Memory}
use Rattle.certificate.specs.declared.stop.LineStop.{LineStop}
use Rattle.certificate.specs.declared.stop.LineStop.TheVariants as stop
use Rattle.certificate.specs.declared.reading.CertFault.{CertFault}
use Rattle.certificate.specs.declared.reading.CertFault.TheVariants as fault

abbrev pub fault_of : LineStop → ℕ → Stop CertFault
fault_of stop.Line line = Fault (fault.Line line)
fault_of stop.Number line = Fault (fault.Number line)
fault_of stop.Memory line = Memory
