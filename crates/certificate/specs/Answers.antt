-- Cited by contracts.
-- What stands behind each answer of the reader.
use Rattle.std.specs.Prelude.{◌≡◌, ℕ, List}
use Rattle.certificate.specs.Text.{IsLineFault, IsNumberFault}
use Rattle.stops.specs.declared.stop.Stop.{Stop}
use Rattle.stops.specs.declared.stop.Stop.TheVariants.{Fault, Memory}
use Rattle.certificate.specs.declared.reading.CertFault.{CertFault}
use Rattle.certificate.specs.declared.reading.CertFault.TheVariants as fault

-- the cause of the fault
abbrev pub IsFault : List ℕ → CertFault → Type 0
IsFault text (fault.Line number) = IsLineFault text number
IsFault text (fault.Number line) = IsNumberFault text line

-- memory ran out
abbrev pub IsMemory : Stop CertFault → Type 0
IsMemory (Fault f) = ⊥
IsMemory Memory = Unit {0}

-- the line of this number is wrong, or memory ran out
abbrev pub IsLineAt : ℕ → Stop CertFault → Type 0
IsLineAt n (Fault (fault.Line number)) = number ≡ n
IsLineAt n (Fault (fault.Number line)) = ⊥
IsLineAt n Memory = Unit {0}

-- a number of this line is above its limit, or memory ran out
abbrev pub IsNumberAt : ℕ → Stop CertFault → Type 0
IsNumberAt n (Fault (fault.Line number)) = ⊥
IsNumberAt n (Fault (fault.Number line)) = line ≡ n
IsNumberAt n Memory = Unit {0}
