-- Cited by contracts.
-- What holds in every world, in whatever order its jobs are asked for, step and give back.
use Rattle.std.specs.Prelude.{◌≡◌, ℕ, suc, ◌+◌, ◌<◌, ◌≤◌, [], ◌∷◌, ◌++◌, length, take, drop, slice_get, Option, Some}
use Rattle.std.specs.List.{AllByRecursion}
use Rattle.hole_list.specs.declared.run.Run.{Run}
use Rattle.hole_list.specs.Placing.{run, AreParts, total}
use Rattle.lease_desk.specs.declared.event.Event.TheVariants as event
use Rattle.lease_desk.specs.Journal.{leased, Move, move, next_move, left_move, give_move, replay}
use Rattle.cell_machine.specs.State.{Final, Running, Over}
use Rattle.cell_machine.specs.Coming.{EndsRight}
use Rattle.job_world.specs.Plans.{Plan, Planned, AreFit, leases_of, job_run, job_cells}
use Rattle.job_world.specs.Put.{machine_of, core_of}
use Rattle.job_world.specs.World.{Start, start_of, lone, Worker, World, either_move}

-- plans that fit their licences, each with a lease of at most the arena
pub record CanHold (arena : ℕ) (ps : Planned) : Type 0 where
  pub fit : AreFit ps
  pub within : AllByRecursion (λ p. p.lease ≤ arena) ps.plans

-- There are as many cells as the arena has. Leases and holes share none and have all of them, and their sizes add up to
-- the arena. The desk's state is the one behind its journal.
pub record LieApart (arena : ℕ) (ps : Planned) (w : World) : Type 0 where
  pub size : length w.cells ≡ arena
  pub parts : AreParts (run 0 arena) w.desk.holes (leased w.desk.leases)
  pub sum : total w.desk.holes + total (leased w.desk.leases) ≡ arena
  pub replayed : replay arena (leases_of ps.plans) w.journal ≡ Some w.desk

-- The range and the frames of a job whose lease is this run are those of its lone machine, after as many steps as its
-- own did since its lease.
pub record IsAlone (ps : Planned) (w : World) (job : ℕ) (r : Run) : Type 0 where
  pub start : Start
  pub begins : start_of ps job ≡ Some start
  pub worker : Worker
  pub is : slice_get w.workers job ≡ Some (Some worker)
  pub alone : machine_of (take r.size (drop r.first w.cells)) worker.core ≡ lone start worker.count

-- the cell isn't one of the job's lease
abbrev pub IsOutside : World → (job index : ℕ) → Type 0
IsOutside w job index = (r : Run) → slice_get w.desk.leases job ≡ Some (Some r) → r.first ≤ index → index < r.first + r.size → ⊥

-- A step of a job changes no cell outside of its own range, no other job's machine, no end that was filed, and nothing
-- of the desk.
pub record StepsApart (w new : World) (job : ℕ) : Type 0 where
  pub cells : (index : ℕ) → IsOutside w job index → slice_get new.cells index ≡ slice_get w.cells index
  pub frames : (other : ℕ) → (other ≡ job → ⊥) → slice_get new.workers other ≡ slice_get w.workers other
  pub filed : new.filed ≡ w.filed
  pub desk : new.desk ≡ w.desk
  pub journal : new.journal ≡ w.journal

-- The job's machine has done one step more.
pub record HasGoneOn (new : World) (job : ℕ) (k : Worker) : Type 0 where
  pub worker : Worker
  pub is : slice_get new.workers job ≡ Some (Some worker)
  pub more : worker.count ≡ suc k.count

-- The end of the job's machine is filed, with the cells of its run, and its lease goes back by a move of the desk. All
-- else is as it was.
pub record HasGivenBack (old new : World) (job : ℕ) (r : Run) (k : Worker) : Type 0 where
  pub final : Final
  pub is : slice_get new.filed job ≡ Some (Some final)
  pub over : machine_of (take r.size (drop r.first old.cells)) k.core ≡ Over final
  pub desk : give_move old.desk job ≡ Some (move (event.Gave job r.first r.size) new.desk)
  pub journal : new.journal ≡ old.journal ++ event.Gave job r.first r.size ∷ []
  pub cells : new.cells ≡ old.cells
  pub frames : (other : ℕ) → (other ≡ job → ⊥) → slice_get new.workers other ≡ slice_get old.workers other
  pub others : (other : ℕ) → (other ≡ job → ⊥) → slice_get new.filed other ≡ slice_get old.filed other

-- ---- asking

-- the desk's next move: the next job that wasn't asked for, or else the first that waits, where no lease is out
abbrev pub move_of : Planned → World → Option Move
move_of ps w = either_move (next_move (leases_of ps.plans) w.desk) (left_move (leases_of ps.plans) w.desk)

-- the job's machine begins: it has done no step
pub record HasBegun (ps : Planned) (new : World) (job : ℕ) : Type 0 where
  pub start : Start
  pub begins : start_of ps job ≡ Some start
  pub is : slice_get new.workers job ≡ Some (Some (record { core = core_of (Running start.begins); count = 0 }))

-- The desk has moved. A job that was taken begins, and all cells outside of its run, all other machines and what was
-- filed are as they were.
pub record HasAsked (ps : Planned) (old new : World) (m : Move) : Type 0 where
  pub desk : new.desk ≡ m.state
  pub journal : new.journal ≡ old.journal ++ m.event ∷ []
  pub filed : new.filed ≡ old.filed
  pub begun : (job first size : ℕ) → m.event ≡ event.Took job first size → HasBegun ps new job
  pub frames : (other : ℕ) → ((first size : ℕ) → m.event ≡ event.Took other first size → ⊥) → slice_get new.workers other ≡ slice_get old.workers other
  pub cells : (index : ℕ) → ((job first size : ℕ) → m.event ≡ event.Took job first size → first ≤ index → index < first + size → ⊥)
      → slice_get new.cells index ≡ slice_get old.cells index

-- ---- ends, and two worlds

-- The end that was filed for a job is the one that the meaning of its own plan's code says, with the cells that its
-- lone machine leaves.
pub record EndsAlone (ps : Planned) (job : ℕ) (f : Final) : Type 0 where
  pub start : Start
  pub begins : start_of ps job ≡ Some start
  pub right : EndsRight start.code (job_run ps job) f f.end
  pub cells : f.cells ≡ job_cells ps job

-- A job of the one and a job of the other have the same plan with the same licence, which may stand at another number.
pub record HaveSamePlan (ps qs : Planned) (job other : ℕ) : Type 0 where
  pub plan : Plan
  pub number : ℕ
  pub is : slice_get ps.plans job ≡ Some plan
  pub also : slice_get qs.plans other ≡ Some (record { licence = number; entry = plan.entry; args = plan.args; fuel = plan.fuel; lease = plan.lease })
  pub licence : slice_get ps.licences plan.licence ≡ slice_get qs.licences number

-- Both have the same frames, and their ranges have the same cells.
pub record AreEqual (w v : World) (job other : ℕ) (r q : Run) : Type 0 where
  pub worker : Worker
  pub is : slice_get w.workers job ≡ Some (Some worker)
  pub also : slice_get v.workers other ≡ Some (Some worker)
  pub cells : take r.size (drop r.first w.cells) ≡ take q.size (drop q.first v.cells)
