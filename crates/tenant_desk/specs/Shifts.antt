-- Cited by contracts.
-- Runs that lie so many cells further on.
use Rattle.std.specs.Prelude.{ℕ, ◌+◌, map}
use Rattle.hole_list.specs.declared.run.Run.{Run}
use Rattle.hole_list.specs.Placing.{run, Taken, taken}

abbrev pub shift : ℕ → Run → Run
shift by r = run (by + r.first) r.size

abbrev pub shift_taken : ℕ → Taken → Taken
shift_taken by t = taken (shift by t.run) (map (shift by) t.holes)
