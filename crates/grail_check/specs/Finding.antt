-- Private: words for functions of this crate.
-- How an answer of the code tells the first fault.
use Rattle.std.specs.Prelude.{◌≡◌, Option, Some, None, Result, Ok, Err, ⊤}
use Rattle.grail_check.specs.declared.fault.Stop.{Stop}
use Rattle.grail_check.specs.declared.fault.Stop.TheVariants.{Fault, Memory}

-- Ok where there is no fault, and else the first one
abbrev pub Finds : {A F : Type 0} → Result A F → Option F → Type 0
Finds (Ok x) found = found ≡ None
Finds (Err fault) found = found ≡ Some fault

-- the same, where memory may run out
abbrev pub Answers : {A F : Type 0} → Result A (Stop F) → Option F → Type 0
Answers (Ok x) found = found ≡ None
Answers (Err (Fault fault)) found = found ≡ Some fault
Answers (Err Memory) found = ⊤
