-- Cited by contracts.
-- What stands behind each answer of the reader.
use Rattle.std.specs.Prelude.{◌≡◌, ◌⊎◌, ℕ, List, Result, Ok, Err}
use Rattle.grail_bundle.specs.Bundles.{Bundle, IsBundle, bundle_text}
use Rattle.grail_bundle.specs.Faults.{IsFault}
use Rattle.grail_bundle.specs.declared.fault.BundleFault.{BundleFault}
use Rattle.stops.specs.declared.stop.Stop.{Stop}
use Rattle.stops.specs.declared.stop.Stop.TheVariants.{Fault, Memory}

-- the cause of the stop: the first wrong line; want of memory has none
abbrev pub HasCause : List ℕ → Stop BundleFault → Type 0
HasCause text (Fault fault) = IsFault text fault.line
HasCause text Memory = Unit {0}

-- memory ran out
abbrev pub IsMemory : Stop BundleFault → Type 0
IsMemory (Fault fault) = ⊥
IsMemory Memory = Unit {0}

-- the line of this number is wrong, or memory ran out
abbrev pub IsAt : ℕ → Stop BundleFault → Type 0
IsAt number (Fault fault) = fault.line ≡ number
IsAt number Memory = Unit {0}

-- an answer that the reader may give to a text
abbrev pub IsAnswer : List ℕ → Result Bundle (Stop BundleFault) → Type 0
IsAnswer text (Ok b) = IsBundle b × (text ≡ bundle_text b.code b.cert)
IsAnswer text (Err stop) = HasCause text stop

-- this bundle, or want of memory
abbrev pub IsThis : Bundle → Result Bundle (Stop BundleFault) → Type 0
IsThis b answer = (answer ≡ Ok b) ⊎ (answer ≡ Err Memory)
