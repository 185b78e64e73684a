-- Laws, for the laws of the world.
-- Lone machines, and machines in one list of cells: the words for the induction over events.
use Rattle.std.specs.Prelude.{◌≡◌, ℕ, suc, ◌+◌, ◌≤◌, ◌⊎◌, List, length, take, drop, slice_get, slice_set, Option, Some, None}
use Rattle.cell_span.specs.declared.cell.Cell.{Cell}
use Rattle.grail_code.specs.Code.{Code}
use Rattle.hole_list.specs.declared.run.Run.{Run}
use Rattle.cell_machine.specs.State.{Configuration, Machine, Running, cells_of, most_calls}
use Rattle.cell_machine.specs.Steps.{step}
use Rattle.cell_machine.specs.Loading.{steps}
use Rattle.job_world.specs.Put.{put_at, machine_of, core_of, one_step}
use Rattle.job_world.specs.World.{Worker}

-- the cells, the leases that are out, and the machines of a world
pub record Bare : Type 0 where
  pub cells : List Cell
  pub leases : List (Option Run)
  pub workers : List (Option Worker)

-- the code of each job, and the machine that it begins with
pub record Starts : Type 0 where
  pub code : ℕ → Code
  pub machine : ℕ → Machine

abbrev pub lone_of : Starts → (job count : ℕ) → Machine
lone_of ps job count = steps (ps.code job) most_calls count (ps.machine job)

-- a lone machine that goes on has a step, which keeps the number of cells
abbrev pub GoOn : Starts → Type 0
GoOn ps = (job count : ℕ) (s : Configuration) → lone_of ps job count ≡ Running s → (n : Machine) × (step (ps.code job) most_calls s ≡ Some n) × (length (cells_of n) ≡ length s.cells)

abbrev pub bare_stepped : Bare → (job first : ℕ) → Worker → Option Machine → Bare
bare_stepped w job first k None = w
bare_stepped w job first k (Some m) = record { cells = put_at first (cells_of m) w.cells; leases = w.leases; workers = slice_set w.workers job (Some (record { core = core_of m; count = suc k.count })) }

abbrev pub bare_step_in : Starts → Bare → (job : ℕ) → Option (Option Worker) → Option (Option Run) → Bare
bare_step_in ps w job (Some (Some k)) (Some (Some r)) = bare_stepped w job r.first k (one_step (ps.code job) (machine_of (drop r.first w.cells) k.core))
bare_step_in ps w job k r = w

abbrev pub bare_step : Starts → Bare → ℕ → Bare
bare_step ps w job = bare_step_in ps w job (slice_get w.workers job) (slice_get w.leases job)

-- the cells and frames are those of the lone machine
pub record StandsAlone (ps : Starts) (whole : List Cell) (job : ℕ) (r : Run) (k : Worker) : Type 0 where
  pub within : r.first + r.size ≤ length whole
  pub alone : machine_of (take r.size (drop r.first whole)) k.core ≡ lone_of ps job k.count

abbrev pub AreAlone : Starts → Bare → Type 0
AreAlone ps w = (job : ℕ) (r : Run) (k : Worker) → slice_get w.leases job ≡ Some (Some r) → slice_get w.workers job ≡ Some (Some k) → StandsAlone ps w.cells job r k

abbrev pub AreApart : Bare → Type 0
AreApart w = (i j : ℕ) (r q : Run) → slice_get w.leases i ≡ Some (Some r) → slice_get w.leases j ≡ Some (Some q) → (i ≡ j → ⊥) → (q.first + q.size ≤ r.first) ⊎ (r.first + r.size ≤ q.first)

-- a job that is taken is loaded into its run
abbrev pub bare_take : Starts → Bare → (job : ℕ) → Run → Bare
bare_take ps w job r = record {
  cells = put_at r.first (cells_of (ps.machine job)) w.cells;
  leases = slice_set w.leases job (Some r);
  workers = slice_set w.workers job (Some (record { core = core_of (ps.machine job); count = 0 }));
}

-- a lease goes back
abbrev pub bare_give : Bare → (job : ℕ) → Bare
bare_give w job = record { cells = w.cells; leases = slice_set w.leases job None; workers = slice_set w.workers job None }
