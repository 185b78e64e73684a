use Rattle.std.proofs.Common.{length, map}
use Rattle.certificate.specs.Words.{func_of}
use Rattle.certificate.specs.Steps.{Reading}
use Rattle.certificate.proofs.reading.read_functions.Given as goal

abbrev pub invariant-lines : goal.invariant-lines
invariant-lines l = record { reading : Reading l.text l.unit (map func_of l.funcs.items) l.rest l.number }

abbrev pub decreases-lines : goal.decreases-lines
decreases-lines l = length l.rest
