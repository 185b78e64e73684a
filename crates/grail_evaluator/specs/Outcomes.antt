-- Cited by contracts.
-- The evaluator's outcomes as those of the meaning of code.
use Rattle.std.specs.Prelude.{◌≡◌, ◌<◌, ◌^◌, Result, Ok, Err, ⊤}
use Rattle.camelot_values.specs.Value.{Value}
use Rattle.camelot_values.specs.Outcome as meaning
use Rattle.grail_evaluator.specs.Trees.{plain}
use Rattle.grail_evaluator.specs.declared.outcome.Outcome.{Outcome}
use Rattle.grail_evaluator.specs.declared.outcome.Outcome.TheVariants.{Done, Fuel, Deep, Trap, Stuck}
use Rattle.grail_evaluator.specs.declared.outcome.RunError.{RunError}
use Rattle.grail_evaluator.specs.declared.outcome.RunError.TheVariants.{Large, Memory}

abbrev pub outcome_of : Outcome → meaning.Outcome Value
outcome_of (Done v calls peak low) = meaning.Done (plain v) calls peak low
outcome_of (Fuel calls peak) = meaning.Fuel calls peak
outcome_of (Deep peak) = meaning.Deep peak
outcome_of (Trap peak) = meaning.Trap peak
outcome_of Stuck = meaning.Stuck

-- each count of the outcome has 64 bits
abbrev pub HasWords : meaning.Outcome Value → Type 0
HasWords (meaning.Done v calls peak low) = (calls < 2 ^ 64) × (peak < 2 ^ 64) × (low < 2 ^ 64)
HasWords (meaning.Fuel calls peak) = (calls < 2 ^ 64) × (peak < 2 ^ 64)
HasWords (meaning.Deep peak) = peak < 2 ^ 64
HasWords (meaning.Trap peak) = peak < 2 ^ 64
HasWords meaning.Stuck = ⊤

-- The run comes to this outcome. An answer is the outcome, whose counts have 64 bits, and it is too large just where
-- one hasn't. Want of memory says nothing.
abbrev pub Tells : Result Outcome RunError → meaning.Outcome Value → Type 0
Tells (Ok outcome) o = (outcome_of outcome ≡ o) × HasWords o
Tells (Err Large) o = HasWords o → ⊥
Tells (Err Memory) o = ⊤
