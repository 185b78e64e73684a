-- Cited by contracts.
-- A journal of the desk, as that of a world in which the jobs run.
use Rattle.std.specs.Prelude.{◌≡◌, ℕ, ◌<◌, ◌≤◌, List, length, slice_get, Some}
use Rattle.hole_list.specs.Placing.{times_in}
use Rattle.lease_desk.specs.declared.event.Event.{Event}
use Rattle.lease_desk.specs.Filing.{FiledCells, filed_cell}
use Rattle.job_world.specs.Plans.{Planned, job_cells}
use Rattle.job_world.specs.World.{WorldEvent, world}

-- each job of these plans files the cells that the machine leaves of its run
abbrev pub FilesAll : Planned → FiledCells → Type 0
FilesAll ps filed = (job : ℕ) → job < length ps.plans → filed job ≡ Some (job_cells ps job)

-- Behind these events the world has this journal. Each cell of its holes is there and is the one that was filed with the
-- last lease that went back over it, and a blank one where none did.
pub record IsSchedule (arena : ℕ) (ps : Planned) (filed : FiledCells) (journal : List Event) : Type 0 where
  pub events : List WorldEvent
  pub told : (world arena ps events).journal ≡ journal
  pub cells : (index : ℕ) → 1 ≤ times_in (world arena ps events).desk.holes index
      → filed_cell filed journal index ≡ slice_get (world arena ps events).cells index

-- The same of a journal behind which no lease is out: the whole arena is one hole.
pub record IsWholeSchedule (arena : ℕ) (ps : Planned) (filed : FiledCells) (journal : List Event) : Type 0 where
  pub events : List WorldEvent
  pub told : (world arena ps events).journal ≡ journal
  pub many : length (world arena ps events).cells ≡ arena
  pub cells : (index : ℕ) → index < arena → filed_cell filed journal index ≡ slice_get (world arena ps events).cells index
