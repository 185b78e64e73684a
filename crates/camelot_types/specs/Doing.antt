-- Private: words for functions of this crate.
-- How answers of private functions tell what the walk comes to: want of memory says nothing.
use Rattle.std.specs.Prelude.{◌≡◌, ℕ, List, Result, Ok, Err, ⊤}
use Rattle.camelot_types.specs.declared.fault.TypeFault.{TypeFault}
use Rattle.stops.specs.declared.stop.Stop.{Stop}
use Rattle.stops.specs.declared.stop.Stop.TheVariants.{Fault, Memory}
use Rattle.camelot_types.specs.declared.guess.Guess.{Guess}
use Rattle.camelot_types.specs.Solving.{Walked, Goes, Stops, Work, Found, FoundAll, FoundArm, FoundArms}
use Rattle.camelot_types.specs.declared.arms.BodyGuess.{BodyGuess}
use Rattle.std.specs.Global.{Vec}

abbrev pub StopsWith : {A : Type 0} → Walked A → Stop TypeFault → Type 0
StopsWith o (Fault fault) = o ≡ Stops fault
StopsWith o Memory = ⊤

-- this answer
abbrev pub Gives : {A : Type 0} → Walked A → Result A (Stop TypeFault) → Type 0
Gives o (Ok x) = o ≡ Goes x
Gives o (Err stop) = StopsWith o stop

-- a test
abbrev pub Allows : {B : Type 0} → Walked (Unit {0}) → Result B (Stop TypeFault) → Type 0
Allows o (Ok y) = o ≡ Goes tt
Allows o (Err stop) = StopsWith o stop

-- with the table as it is then
abbrev pub Leaves : {B : Type 0} → Walked (List Guess) → List Guess → Result B (Stop TypeFault) → Type 0
Leaves o table (Ok y) = o ≡ Goes table
Leaves o table (Err stop) = StopsWith o stop

-- a guess, with the work as it is then
abbrev pub Finds : Walked Found → Work → Result Guess (Stop TypeFault) → Type 0
Finds o work (Ok a) = o ≡ Goes (record { work = work; guess = a })
Finds o work (Err stop) = StopsWith o stop

-- the guesses of arguments
abbrev pub FindsAll : Walked FoundAll → Work → List ℕ → Result (Vec Guess) (Stop TypeFault) → Type 0
FindsAll o work lines (Ok gs) = o ≡ Goes (record { work = work; lines = lines; guesses = gs.items })
FindsAll o work lines (Err stop) = StopsWith o stop

-- an arm's constructor, and the guess of its body
abbrev pub FindsArm : Walked FoundArm → Work → Result BodyGuess (Stop TypeFault) → Type 0
FindsArm o work (Ok a) = o ≡ Goes (record { work = work; con = a.con; guess = a.guess })
FindsArm o work (Err stop) = StopsWith o stop

-- the numbers of arms
abbrev pub FindsArms : Walked FoundArms → Work → Result (Vec ℕ) (Stop TypeFault) → Type 0
FindsArms o work (Ok ns) = o ≡ Goes (record { work = work; numbers = ns.items })
FindsArms o work (Err stop) = StopsWith o stop
