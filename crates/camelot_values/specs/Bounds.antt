-- Cited by contracts.
-- What holds of the value that a run comes to, and of its cells: bounds on the peak and on the net, in units of which
-- each cell costs so many, as in the potentials of Hofmann and Jost (2003).
use Rattle.std.specs.Prelude.{ℕ, ◌+◌, ◌*◌, ◌≤◌}
use Rattle.camelot_values.specs.Outcome.{Outcome, Done, Fuel, Deep, Trap, Stuck}

-- the value has this property, where there is one, and the run isn't stuck
abbrev pub Yields : {A : Type 0} → (A → Type 0) → Outcome A → Type 0
Yields P (Done v calls peak low) = P v
Yields P (Fuel calls peak) = Unit {0}
Yields P (Deep peak) = Unit {0}
Yields P (Trap peak) = Unit {0}
Yields P Stuck = ⊥

-- With so many units to begin with: the peak costs no more, and at a value the net and what is left for the value cost
-- no more together. The net is the peak without `low`, so the second stands with `low` on the other side. Of a stuck
-- run this says nothing: that there is none is said apart (Yields).
abbrev pub IsPaidBy : {A : Type 0} → (unit units : ℕ) → (A → ℕ) → Outcome A → Type 0
IsPaidBy unit units left (Done v calls peak low) = (unit * peak ≤ units) × (unit * peak + left v ≤ units + unit * low)
IsPaidBy unit units left (Fuel calls peak) = unit * peak ≤ units
IsPaidBy unit units left (Deep peak) = unit * peak ≤ units
IsPaidBy unit units left (Trap peak) = unit * peak ≤ units
IsPaidBy unit units left Stuck = Unit {0}

-- the run stopped before it came to a value
abbrev pub IsStop : {A : Type 0} → Outcome A → Type 0
IsStop (Done v calls peak low) = ⊥
IsStop (Fuel calls peak) = Unit {0}
IsStop (Deep peak) = Unit {0}
IsStop (Trap peak) = Unit {0}
IsStop Stuck = Unit {0}

-- the stop, in a run that was to come to another sort of value
abbrev pub same_stop : {A B : Type 0} → Outcome A → Outcome B
same_stop (Done v calls peak low) = Stuck
same_stop (Fuel calls peak) = Fuel calls peak
same_stop (Deep peak) = Deep peak
same_stop (Trap peak) = Trap peak
same_stop Stuck = Stuck
