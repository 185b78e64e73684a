-- Private: words for functions of this crate.
-- The stack that is kept for the next run, what the run of a lease hands back, and a desk with just one lease out.
use Rattle.std.specs.Prelude.{◌≡◌, ℕ, Bool, true, false, List, [], length, slice_get, slice_set, Option, Some, None}
use Rattle.licence.specs.Licensed.{Licensed}
use Rattle.cell_machine.specs.Views.{IsStackFor, RoomView, HasRoom}
use Rattle.cell_machine.specs.declared.machine.Stack.{Stack}
use Rattle.job_world.specs.Plans.{Planned, job_cells}
use Rattle.lease_desk.specs.Journal.{leased}
use Rattle.lease_desk.specs.Lease.{LeaseView}
use Rattle.lease_desk.specs.Desk.{DeskView, Knows}

-- the stack is one for the runs of the licence of this number
abbrev pub IsStackAt : List Licensed → (number : ℕ) → Stack → Type 0
IsStackAt licences number stack = (l : Licensed) → slice_get licences number ≡ Some l → IsStackFor l.code stack

-- room for the value of a run in so many cells, where the value is asked for, and else none
abbrev pub IsRoomFor : (asks : Bool) (lease : ℕ) → Option RoomView → Type 0
IsRoomFor asks lease (Some room) = (asks ≡ true) × HasRoom lease room
IsRoomFor asks lease None = asks ≡ false

-- The lease that comes back is the one that was served, with the cells that its job leaves. The answer's number is its
-- job's.
pub record IsServed (ps : Planned) (l back : LeaseView) (number : ℕ) : Type 0 where
  pub job : back.job ≡ l.job
  pub first : back.range.first ≡ l.range.first
  pub size : length back.range.cells ≡ length l.range.cells
  pub cells : back.range.cells ≡ job_cells ps number
  pub same : number ≡ l.job

-- for payloads of any sort
module _ {P : Type 0} where
  -- The desk gave this lease, and no other one is out.
  pub record IsOnlyOut (d : DeskView P) (l : LeaseView) : Type 0 where
    pub knows : Knows d l
    pub only : leased (slice_set d.state.leases l.job None) ≡ []
