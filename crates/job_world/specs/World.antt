-- Cited by contracts.
-- The world of an arena: one list of cells, a desk, a machine for each lease that is out, and the ends that were filed.
-- Jobs are asked for, step and give back in any order. A machine steps in the whole list, from the first cell of its
-- lease on, and nothing tests where the lease ends.
use Rattle.std.specs.Prelude.{ℕ, suc, List, [], ◌∷◌, ◌++◌, length, take, drop, replicate, slice_get, slice_set, Option, Some, None}
use Rattle.cell_span.specs.declared.cell.Cell.{Cell}
use Rattle.cell_span.specs.Range.{blank}
use Rattle.hole_list.specs.declared.run.Run.{Run}
use Rattle.lease_desk.specs.declared.event.Event.{Event}
use Rattle.lease_desk.specs.declared.event.Event.TheVariants as event
use Rattle.lease_desk.specs.Journal.{DeskState, opened, Move, next_move, left_move, give_move}
use Rattle.grail_code.specs.Code.{Func, Code}
use Rattle.licence.specs.Licensed.{Licensed}
use Rattle.cell_machine.specs.State.{Configuration, End, Final, Machine, Running, cells_of, most_calls}
use Rattle.cell_machine.specs.Loading.{begun, steps}
use Rattle.job_world.specs.Plans.{Plan, Planned, leases_of}
use Rattle.job_world.specs.Put.{put_at, Core, Going, Ended, machine_of, core_of, one_step}

-- ---- how a job's run begins

-- its code, and the configuration in which it begins
pub record Start : Type 0 where
  pub code : Code
  pub begins : Configuration

abbrev pub start_in : Licensed → Plan → Option Func → Option Start
start_in l p None = None
start_in l p (Some f) = Some (record { code = l.code; begins = begun l.code p.entry f p.args p.fuel p.lease })

abbrev pub start_with : Option Licensed → Plan → Option Start
start_with None p = None
start_with (Some l) p = start_in l p (slice_get l.code.funcs p.entry)

abbrev pub start_at : List Licensed → Option Plan → Option Start
start_at licences None = None
start_at licences (Some p) = start_with (slice_get licences p.licence) p

-- of the job of this number
unfoldable pub start_of : Planned → ℕ → Option Start
start_of ps job = start_at ps.licences (slice_get ps.plans job)

-- a lone machine in a range of its own, after so many steps
abbrev pub lone : Start → (count : ℕ) → Machine
lone s count = steps s.code most_calls count (Running s.begins)

-- ---- worlds

-- a machine without its cells, and how many steps it did since its lease
pub record Worker : Type 0 where
  pub core : Core
  pub count : ℕ

-- The cells of the whole arena, the desk and its journal, and for each job its machine, while its lease is out, and its
-- end, once it was filed.
pub record World : Type 0 where
  pub cells : List Cell
  pub desk : DeskState
  pub journal : List Event
  pub workers : List (Option Worker)
  pub filed : List (Option Final)

-- the lease of a job, where it has a place, and where it is out
abbrev pub lease_at : World → (job : ℕ) → Option (Option Run)
lease_at w job = slice_get w.desk.leases job

-- its machine, and its end
abbrev pub worker_at : World → (job : ℕ) → Option (Option Worker)
worker_at w job = slice_get w.workers job

abbrev pub filed_at : World → (job : ℕ) → Option (Option Final)
filed_at w job = slice_get w.filed job

-- what happens: the next job is asked for, a job's machine steps, or a job gives its lease back
pub data WorldEvent : Type 0 where
  Next : WorldEvent
  Step : (job : ℕ) → WorldEvent
  Give : (job : ℕ) → WorldEvent

-- at first the arena is one hole of blank cells
abbrev pub first_world : (arena : ℕ) → Planned → World
first_world arena ps = record {
  cells = replicate arena blank;
  desk = opened arena (length (leases_of ps.plans));
  journal = [];
  workers = replicate (length ps.plans) None;
  filed = replicate (length ps.plans) None;
}

-- ---- asking

-- the desk has moved on
abbrev pub moved : World → Move → World
moved w m = record { cells = w.cells; desk = m.state; journal = w.journal ++ m.event ∷ []; workers = w.workers; filed = w.filed }

-- a job that is taken is loaded into its run
abbrev pub loaded : World → (job first : ℕ) → Option Start → World
loaded w job first None = w
loaded w job first (Some s) = record {
  cells = put_at first s.begins.cells w.cells;
  desk = w.desk;
  journal = w.journal;
  workers = slice_set w.workers job (Some (record { core = core_of (Running s.begins); count = 0 }));
  filed = w.filed;
}

abbrev pub told : Planned → World → Event → World
told ps w (event.Took job first size) = loaded w job first (start_of ps job)
told ps w (event.Full job need largest) = w
told ps w (event.Gave job first size) = w

abbrev pub gone_on : Planned → World → Option Move → World
gone_on ps w None = w
gone_on ps w (Some m) = told ps (moved w m) m.event

-- the next job that wasn't asked for, or else the first that waits, where no lease is out
abbrev pub either_move : Option Move → Option Move → Option Move
either_move None other = other
either_move (Some m) other = Some m

abbrev pub after_next : Planned → World → World
after_next ps w = gone_on ps w (either_move (next_move (leases_of ps.plans) w.desk) (left_move (leases_of ps.plans) w.desk))

-- ---- stepping

-- The cells from `first` on are the machine's for this step, up to the end of the whole list. Nothing changes where the
-- machine is over.
abbrev pub stepped : World → (job first : ℕ) → Worker → Option Machine → World
stepped w job first k None = w
stepped w job first k (Some m) = record {
  cells = put_at first (cells_of m) w.cells;
  desk = w.desk;
  journal = w.journal;
  workers = slice_set w.workers job (Some (record { core = core_of m; count = suc k.count }));
  filed = w.filed;
}

abbrev pub step_in : World → (job : ℕ) → Option Start → Option (Option Worker) → Option (Option Run) → World
step_in w job (Some s) (Some (Some k)) (Some (Some r)) = stepped w job r.first k (one_step s.code (machine_of (drop r.first w.cells) k.core))
step_in w job s k r = w

abbrev pub after_step : Planned → World → ℕ → World
after_step ps w job = step_in w job (start_of ps job) (slice_get w.workers job) (slice_get w.desk.leases job)

-- ---- giving back

-- the end of a machine that is over, with the cells of its range
abbrev pub final_in : List Cell → Run → End → (calls peak low : ℕ) → Final
final_in cells r end calls peak low = record { cells = take r.size (drop r.first cells); end = end; calls = calls; peak = peak; low = low }

-- it is filed, and the lease goes back
abbrev pub ended : World → (job : ℕ) → Core → Run → Option Move → World
ended w job c r None = w
ended w job (Going rest) r (Some m) = w
ended w job (Ended end calls peak low) r (Some m) = record {
  cells = w.cells;
  desk = m.state;
  journal = w.journal ++ m.event ∷ [];
  workers = slice_set w.workers job None;
  filed = slice_set w.filed job (Some (final_in w.cells r end calls peak low));
}

abbrev pub give_in : World → (job : ℕ) → Option (Option Worker) → Option (Option Run) → World
give_in w job (Some (Some k)) (Some (Some r)) = ended w job k.core r (give_move w.desk job)
give_in w job k r = w

abbrev pub after_give : World → ℕ → World
after_give w job = give_in w job (slice_get w.workers job) (slice_get w.desk.leases job)

-- ---- events

unfoldable pub after : Planned → World → WorldEvent → World
after ps w Next = after_next ps w
after ps w (Step job) = after_step ps w job
after ps w (Give job) = after_give w job

abbrev pub behind : Planned → World → List WorldEvent → World
behind ps w [] = w
behind ps w (e ∷ es) = behind ps (after ps w e) es

-- the world behind these events
unfoldable pub world : (arena : ℕ) → Planned → List WorldEvent → World
world arena ps events = behind ps (first_world arena ps) events
