-- Cited by contracts.
-- What is answered of a program: its first function that is too large, locals before blocks. Counts stand still at 2^64
-- - 1.
use Rattle.std.specs.Prelude.{◌≡◌, ℕ, ◌-◌, ◌^◌, min, nat_lt, if◌then◌else◌, List, ◌∷◌, Option, Some, None, Result, Ok, Err, ⊤}
use Rattle.std.specs.Option.{option_or}
use Rattle.stops.specs.declared.stop.Stop.{Stop}
use Rattle.stops.specs.declared.stop.Stop.TheVariants.{Memory}
use Rattle.stops.specs.Stopping.{FaultIs, IsFault}
use Rattle.camelot_tree.specs.Tree.{Function, Source}
use Rattle.camelot_typing.specs.Typing.{Signature}
use Rattle.camelot_typing.specs.Typed.{Typing}
use Rattle.normal_form.specs.declared.fault.NormalFault.{NormalFault}
use Rattle.normal_form.specs.declared.fault.NormalFault.TheVariants.{TooManyLocals, TooManyBlocks}
use Rattle.normal_form.specs.Normal.{tail_made, tail_ends}

abbrev pub counted_as : ℕ → ℕ
counted_as n = min n (2 ^ 64 - 1)

-- a function with more than 240 locals besides its parameters, or more than 256 blocks
abbrev pub fault_of : Source → Function → Option NormalFault
fault_of p f = if nat_lt 240 (tail_made p f.body) then Some (TooManyLocals f.name.word (counted_as (tail_made p f.body)))
    else if nat_lt 256 (tail_ends p f.body) then Some (TooManyBlocks f.name.word (counted_as (tail_ends p f.body)))
    else None

abbrev pub first_fault : Source → List Function → List Signature → Option NormalFault
first_fault p (f ∷ fs) (s ∷ ss) = option_or (fault_of p f) (first_fault p fs ss)
first_fault p fs ss = None

abbrev pub program_fault : Typing → Option NormalFault
program_fault t = first_fault t.source t.source.funs t.signatures

-- Ok where there is no fault, and else this one, unless memory runs out
abbrev pub Finds : {A : Type 0} → Result A (Stop NormalFault) → Option NormalFault → Type 0
Finds (Ok x) found = found ≡ None
Finds (Err stop) found = FaultIs (λ fault. found ≡ Some fault) stop

-- Ok, unless memory ran out
abbrev pub Takes : {A : Type 0} → Result A (Stop NormalFault) → Type 0
Takes (Ok x) = ⊤
Takes (Err stop) = stop ≡ Memory

-- an error with this fault, unless memory ran out
abbrev pub Refuses : {A : Type 0} → NormalFault → Result A (Stop NormalFault) → Type 0
Refuses fault (Ok x) = ⊥
Refuses fault (Err stop) = IsFault fault stop
