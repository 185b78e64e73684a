-- Cited by contracts.
-- What a run of licensed code asks for, and how it goes.
use Rattle.std.specs.Prelude.{◌≡◌, ℕ, ◌≤◌, List, length, Some}
use Rattle.camelot_values.specs.Value.{Value, parts}
use Rattle.camelot_values.specs.Counts.{size_all}
use Rattle.grail_code.specs.Code.{Func}
use Rattle.licence.specs.Bound.{lease}
use Rattle.licence.specs.Licensed.{Licensed, FitsEntry}
use Rattle.cell_machine.specs.State.{Configuration, Machine, Running, cells_of, most_calls}
use Rattle.cell_machine.specs.Steps.{step}
use Rattle.cell_machine.specs.Loading.{begun, steps}
use Rattle.cell_machine.specs.Coming.{EndsAsMeant}

-- an entry with fitting arguments of at most 65,536 nodes, fuel, and a range of just as many cells as the lease
pub record IsPlan (l : Licensed) (entry : ℕ) (args : List Value) (fuel cells : ℕ) : Type 0 where
  pub fits : FitsEntry l entry args
  pub few : size_all (parts args) ≤ 65536
  pub some_fuel : 1 ≤ fuel
  pub lease : cells ≡ lease l.code l.cert entry args

-- the state behind so many steps of a plan's run
abbrev pub planned_state : (l : Licensed) (entry : ℕ) → Func → List Value → (fuel cells count : ℕ) → Machine
planned_state l entry f args fuel cells count = steps l.code most_calls count (Running (begun l.code entry f args fuel cells))

-- The run of a plan ends as the code means. Each state in which it goes on has a step, so that none finds its free list
-- empty. Each state on the way has just the lease's number of cells.
pub record RunsAsPlanned (l : Licensed) (entry : ℕ) (f : Func) (args : List Value) (fuel cells : ℕ) : Type 0 where
  pub ends : EndsAsMeant l.code most_calls entry f args fuel cells
  pub goes : (count : ℕ) (s : Configuration) → planned_state l entry f args fuel cells count ≡ Running s → (m : Machine) × (step l.code most_calls s ≡ Some m)
  pub size : (count : ℕ) → length (cells_of (planned_state l entry f args fuel cells count)) ≡ cells
