-- Cited by contracts.
-- What a run comes to, for the source language and for code alike. It is the big-step evaluation of Hofmann and
-- Jost (2003) with counters in place of a heap, in the manner of functional big-step semantics (Owens, Myreen,
-- Kumar, Tan 2016). The net number of cells starts at 0, rises by 1 for each cell taken from the free list and
-- falls by 1 for each cell given back; the peak is the greatest net so far, and at least 0. An outcome keeps the
-- peak and how far the net ends below it: two natural numbers, whose sums need no side conditions.
use Rattle.std.specs.Prelude.{ℕ, ◌+◌, ◌-◌, ℤ, pos, ◌-ℤ◌, Option, Some, None}

pub data Outcome (A : Type 0) : Type 0 where
  -- a value, how many functions were entered, the peak, and how far the net is below the peak
  Done : A → (calls peak low : ℕ) → Outcome A
  -- a call found no fuel left: how many functions were entered until then, and the peak
  Fuel : (calls peak : ℕ) → Outcome A
  -- a call found as many calls waiting as may wait
  Deep : (peak : ℕ) → Outcome A
  -- an operator has no value for its operands
  Trap : (peak : ℕ) → Outcome A
  -- the run has no meaning here, as where an unknown name is read or a form isn't given a meaning yet
  Stuck : Outcome A

-- the net of a run with this peak that ends so far below it
abbrev pub net : ℕ → ℕ → ℤ
net peak low = pos peak -ℤ pos low

-- the peak of a run that came to this, and its calls and its net where it came to a value
abbrev pub peak_of : {A : Type 0} → Outcome A → ℕ
peak_of (Done v calls peak low) = peak
peak_of (Fuel calls peak) = peak
peak_of (Deep peak) = peak
peak_of (Trap peak) = peak
peak_of Stuck = 0

abbrev pub calls_of : {A : Type 0} → Outcome A → ℕ
calls_of (Done v calls peak low) = calls
calls_of (Fuel calls peak) = 0
calls_of (Deep peak) = 0
calls_of (Trap peak) = 0
calls_of Stuck = 0

abbrev pub net_of : {A : Type 0} → Outcome A → ℤ
net_of (Done v calls peak low) = net peak low
net_of (Fuel calls peak) = pos 0
net_of (Deep peak) = pos 0
net_of (Trap peak) = pos 0
net_of Stuck = pos 0

-- an outcome that comes after one of so many calls, this peak and this distance below it
abbrev pub after : {A : Type 0} → ℕ → ℕ → ℕ → Outcome A → Outcome A
after calls peak low (Done v calls' peak' low') = Done v (calls + calls') (peak + (peak' - low)) (low' + (low - peak'))
after calls peak low (Fuel calls' peak') = Fuel (calls + calls') (peak + (peak' - low))
after calls peak low (Deep peak') = Deep (peak + (peak' - low))
after calls peak low (Trap peak') = Trap (peak + (peak' - low))
after calls peak low Stuck = Stuck

-- first this, with so much fuel, then that, with the fuel that is left: where the first stops, the whole stops
abbrev pub first_then : {A B : Type 0} → ℕ → Outcome A → (ℕ → A → Outcome B) → Outcome B
first_then fuel (Done v calls peak low) next = after calls peak low (next (fuel - calls) v)
first_then fuel (Fuel calls peak) next = Fuel calls peak
first_then fuel (Deep peak) next = Deep peak
first_then fuel (Trap peak) next = Trap peak
first_then fuel Stuck next = Stuck

-- a value at no cost
abbrev pub at_once : {A : Type 0} → A → Outcome A
at_once v = Done v 0 0 0

-- a value at no cost, where there is one
abbrev pub known : {A : Type 0} → Option A → Outcome A
known None = Stuck
known (Some v) = Done v 0 0 0

-- what follows, over what is there
abbrev pub given : {A B : Type 0} → Option A → (A → Outcome B) → Outcome B
given None next = Stuck
given (Some x) next = next x

-- a function's body, as the call that enters it: one call more
abbrev pub entered : {A : Type 0} → Outcome A → Outcome A
entered o = after 1 0 0 o
