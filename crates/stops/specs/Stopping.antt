-- Cited by contracts.
-- What stops a call: a fault of its input, or want of memory.
use Rattle.std.specs.Prelude.{◌≡◌}
use Rattle.stops.specs.declared.stop.Stop.{Stop}
use Rattle.stops.specs.declared.stop.Stop.TheVariants.{Fault, Memory}

-- The fault is so, or there is no memory.
abbrev pub FaultIs : {F : Type 0} → (F → Type 0) → Stop F → Type 0
FaultIs P (Fault f) = P f
FaultIs P Memory = Unit {0}

-- It is this fault, or there is no memory.
abbrev pub IsFault : {F : Type 0} → F → Stop F → Type 0
IsFault f = FaultIs (λ g. g ≡ f)
