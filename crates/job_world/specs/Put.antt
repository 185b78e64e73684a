-- Cited by contracts.
-- A machine in the middle of an arena: its cells are those of the whole list from its range's first index on, and what
-- a step leaves is put back there.
use Rattle.std.specs.Prelude.{ℕ, zero, suc, List, [], ◌∷◌, Option, None}
use Rattle.cell_span.specs.declared.cell.Cell.{Cell}
use Rattle.grail_code.specs.Code.{Code}
use Rattle.cell_machine.specs.State.{Activation, End, Machine, Running, Over, most_calls}
use Rattle.cell_machine.specs.Steps.{step}

-- these items over the first ones of a list, which keeps its length
abbrev pub over_first : {A : Type 0} → List A → List A → List A
over_first [] whole = whole
over_first (x ∷ xs) [] = []
over_first (x ∷ xs) (y ∷ whole) = x ∷ over_first xs whole

-- over those from an index on
abbrev pub put_at : {A : Type 0} → ℕ → List A → List A → List A
put_at zero xs whole = over_first xs whole
put_at (suc first) xs [] = []
put_at (suc first) xs (y ∷ whole) = y ∷ put_at first xs whole

-- a run that goes on, without its cells
pub record Rest : Type 0 where
  pub head : ℕ
  pub frame : Activation
  pub waiting : List Activation
  pub fuel : ℕ
  pub calls : ℕ
  pub peak : ℕ
  pub low : ℕ

-- a machine without its cells: its run goes on, or is over
pub data Core : Type 0 where
  Going : Rest → Core
  Ended : End → (calls peak low : ℕ) → Core

-- the machine with these cells
abbrev pub machine_of : List Cell → Core → Machine
machine_of cells (Going r) = Running (record { cells = cells; head = r.head; frame = r.frame; waiting = r.waiting; fuel = r.fuel; calls = r.calls; peak = r.peak; low = r.low })
machine_of cells (Ended end calls peak low) = Over (record { cells = cells; end = end; calls = calls; peak = peak; low = low })

abbrev pub core_of : Machine → Core
core_of (Running s) = Going (record { head = s.head; frame = s.frame; waiting = s.waiting; fuel = s.fuel; calls = s.calls; peak = s.peak; low = s.low })
core_of (Over f) = Ended f.end f.calls f.peak f.low

-- one step of the machine, where its run goes on
abbrev pub one_step : Code → Machine → Option Machine
one_step p (Running s) = step p most_calls s
one_step p (Over f) = None
