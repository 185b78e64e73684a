-- Cited by contracts.
-- What decoding and migrating answer, as against what bytes are: code, the beginning of a spelling, or neither from
-- some byte on.
use Rattle.std.specs.Prelude.{◌≡◌, ℕ, List, Result, Ok, Err}
use Rattle.std.specs.Global.{Vec}
use Rattle.grail_code.specs.declared.code.Code.{Code as DeclaredCode}
use Rattle.stops.specs.Stopping.{FaultIs}
use Rattle.stops.specs.declared.stop.Stop.{Stop as WhyStop}
use Rattle.stops.specs.declared.stop.Stop.TheVariants as stop
use Rattle.grail_code.specs.declared.fault.DecodeFault.{DecodeFault}
use Rattle.grail_code.specs.declared.fault.DecodeFault.TheVariants as fault
use Rattle.grail_code.specs.Code.{Code, code_of}
use Rattle.grail_code.specs.Spelling.{Second, spelling, Decoded, Spelled, Front, Broken, Means, IsSpelling, IsFront, IsLongestBegin}

-- what stands behind each fault
abbrev pub IsFault : List ℕ → DecodeFault → Type 0
IsFault bytes fault.Short = IsFront bytes
IsFault bytes (fault.Bad at) = IsLongestBegin bytes at

-- Each answer is so. Nothing is said of the bytes where memory ran out.
abbrev pub IsSo : List ℕ → Result DeclaredCode (WhyStop DecodeFault) → Type 0
IsSo bytes (Ok code) = IsSpelling (code_of code) bytes
IsSo bytes (Err why) = FaultIs (IsFault bytes) why

-- the answer says this of the bytes, or that memory ran out
abbrev pub Says : Result DeclaredCode (WhyStop DecodeFault) → Decoded → Type 0
Says (Ok code) (Spelled p) = code_of code ≡ p
Says (Err (stop.Fault fault.Short)) Front = Unit {0}
Says (Err (stop.Fault (fault.Bad at))) (Broken n) = at ≡ n
Says (Err stop.Memory) o = Unit {0}
Says answer o = ⊥

-- ---- migrating

-- the spelling in the second format of the code that the bytes spell
pub record IsMigration (bytes migrated : List ℕ) : Type 0 where
  pub program : Code
  pub means : Means bytes (Spelled program)
  pub is : migrated ≡ spelling Second program

-- Each answer is so, the refusals as those of decoding.
abbrev pub IsMigrated : List ℕ → Result (Vec ℕ) (WhyStop DecodeFault) → Type 0
IsMigrated bytes (Ok migrated) = IsMigration bytes migrated.items
IsMigrated bytes (Err why) = FaultIs (IsFault bytes) why

-- the answer is the migration of this, or that memory ran out
abbrev pub Migrates : Result (Vec ℕ) (WhyStop DecodeFault) → Decoded → Type 0
Migrates (Ok migrated) (Spelled p) = migrated.items ≡ spelling Second p
Migrates (Err (stop.Fault fault.Short)) Front = Unit {0}
Migrates (Err (stop.Fault (fault.Bad at))) (Broken n) = at ≡ n
Migrates (Err stop.Memory) o = Unit {0}
Migrates answer o = ⊥
