-- Cited by contracts.
-- What the check answers.
use Rattle.std.specs.Prelude.{◌≡◌, Option, Some, None, Result, Ok, Err, List, [], ◌∷◌, ⊤}
use Rattle.stops.specs.declared.stop.Stop.{Stop}
use Rattle.stops.specs.declared.stop.Stop.TheVariants.{Memory}
use Rattle.stops.specs.Stopping.{FaultIs, IsFault}
use Rattle.camelot_typing.specs.Typed.{Typing}
use Rattle.linear_use.specs.declared.fault.UseFault.{UseFault}
use Rattle.linear_use.specs.Uses as rule
use Rattle.linear_use.specs.Flow.{program_faults}

-- the rule, and the faults, of a program with its kinds
abbrev pub KeepsRule : Typing → Type 0
KeepsRule t = rule.KeepsRule t.source t.signatures

abbrev pub faults_of : Typing → List UseFault
faults_of t = program_faults t.source t.signatures

-- the first of these faults, where there is one
abbrev pub first : List UseFault → Option UseFault
first [] = None
first (fault ∷ faults) = Some fault

-- the first of these faults, unless memory ran out
abbrev pub IsFirst : List UseFault → Stop UseFault → Type 0
IsFirst faults = FaultIs (λ fault. first faults ≡ Some fault)

-- Ok, unless memory ran out
abbrev pub Takes : {A : Type 0} → Result A (Stop UseFault) → Type 0
Takes (Ok x) = ⊤
Takes (Err stop) = stop ≡ Memory

-- an error with this fault, unless memory ran out
abbrev pub Refuses : {A : Type 0} → UseFault → Result A (Stop UseFault) → Type 0
Refuses fault (Ok x) = ⊥
Refuses fault (Err stop) = IsFault fault stop
