-- Cited by contracts.
-- The summary of a script in one line: how many of its jobs ended how, and the sums of their calls and peaks.
use Rattle.std.specs.Prelude.{ℕ, ◌+◌, List, [], ◌∷◌, ◌++◌, length, map, codes, decimal}
use Rattle.cell_machine.specs.declared.machine.Halt.{Halt}
use Rattle.cell_machine.specs.declared.machine.Halt.TheVariants as halt
use Rattle.camelot_values.specs.Value.{Value}
use Rattle.camelot_values.specs.Outcome.{Outcome, Done, Fuel, Deep, Trap, Stuck}
use Rattle.run_reports.specs.declared.summing.Tally.{Tally}
use Rattle.run_reports.specs.Told.{JobLine, Ended, TooLarge, Refused, Told}

-- nothing was counted
abbrev pub none : Tally
none = record { done = 0; fuel = 0; deep = 0; too_large = 0; refused = 0; calls = 0; peaks = 0 }

-- What a run counts for that ended so: the calls of one that came to a value, and each run's peak, which is all that
-- one counts for that was trapped.
abbrev pub tally_of_halt : Halt → Tally
tally_of_halt (halt.Done calls peak) = record { done = 1; fuel = 0; deep = 0; too_large = 0; refused = 0; calls = calls; peaks = peak }
tally_of_halt (halt.Fuel peak) = record { done = 0; fuel = 1; deep = 0; too_large = 0; refused = 0; calls = 0; peaks = peak }
tally_of_halt (halt.Deep peak) = record { done = 0; fuel = 0; deep = 1; too_large = 0; refused = 0; calls = 0; peaks = peak }
tally_of_halt (halt.Trap peak) = record { done = 0; fuel = 0; deep = 0; too_large = 0; refused = 0; calls = 0; peaks = peak }

-- what a run counts for that comes to this; well-formed code is never stuck
abbrev pub tally_of_run : Outcome Value → Tally
tally_of_run (Done v calls peak low) = tally_of_halt (halt.Done calls peak)
tally_of_run (Fuel calls peak) = tally_of_halt (halt.Fuel peak)
tally_of_run (Deep peak) = tally_of_halt (halt.Deep peak)
tally_of_run (Trap peak) = tally_of_halt (halt.Trap peak)
tally_of_run Stuck = none

-- a job that needs more cells than the arena has
abbrev pub one_too_large : Tally
one_too_large = record { done = 0; fuel = 0; deep = 0; too_large = 1; refused = 0; calls = 0; peaks = 0 }

-- a job that didn't run for another cause
abbrev pub one_refused : Tally
one_refused = record { done = 0; fuel = 0; deep = 0; too_large = 0; refused = 1; calls = 0; peaks = 0 }

-- what the line of a job counts for
abbrev pub tally_of : JobLine → Tally
tally_of (Ended types outcome fuel bound) = tally_of_run outcome
tally_of (TooLarge needs arena) = one_too_large
tally_of (Refused cause) = one_refused

abbrev pub added : Tally → Tally → Tally
added t u = record {
  done = t.done + u.done;
  fuel = t.fuel + u.fuel;
  deep = t.deep + u.deep;
  too_large = t.too_large + u.too_large;
  refused = t.refused + u.refused;
  calls = t.calls + u.calls;
  peaks = t.peaks + u.peaks;
}

-- all together
abbrev pub sum : List Tally → Tally
sum [] = none
sum (t ∷ ts) = added t (sum ts)

-- all lines together
abbrev pub total : List JobLine → Tally
total lines = sum (map tally_of lines)

-- ---- the line

abbrev pub counts_text : Tally → List ℕ
counts_text t = (codes " done " ++ decimal t.done) ++ (codes " fuel " ++ decimal t.fuel) ++ (codes " deep " ++ decimal t.deep) ++ (codes " too-large " ++ decimal t.too_large)

abbrev pub sums_text : Tally → List ℕ
sums_text t = (codes " refused " ++ decimal t.refused) ++ (codes " calls " ++ decimal t.calls) ++ (codes " peaks " ++ decimal t.peaks)

-- so many jobs, what was counted of them, and the free cells at the end
abbrev pub tally_text : (jobs : ℕ) → Tally → (free : ℕ) → List ℕ
tally_text jobs t free = (codes "drill " ++ decimal jobs) ++ counts_text t ++ sums_text t ++ (codes " free " ++ decimal free) ++ codes "\n"

unfoldable pub summary_text : Told → List ℕ
summary_text told = tally_text (length told.jobs) (total told.jobs) told.free
