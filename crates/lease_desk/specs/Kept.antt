-- Private: words for functions of this crate.
-- What a desk keeps of its holes and its book, and what a lease keeps of its name.
use Rattle.std.specs.Prelude.{◌≡◌, ℕ, ◌≤◌, List, length, slice_get, Option, Some}
use Rattle.cell_span.specs.Arenas.{Arena}
use Rattle.cell_span.specs.declared.cell.Cell.{Cell}
use Rattle.hole_list.specs.Placing.{run}
use Rattle.hole_list.specs.Holes.{Holed, run_of}
use Rattle.std.specs.Prelude.{map}
use Rattle.lease_desk.specs.Journal.{DeskState, leased}
use Rattle.lease_desk.specs.Outs.{AreReordered}
use Rattle.lease_desk.specs.BookView.{BookView}
use Rattle.lease_desk.specs.Lease.{LeaseView}
use Rattle.lease_desk.specs.Desk.{DeskView, IsDesk, Knows}

abbrev pub state_of : Holed → BookView → DeskState
state_of h b = record { asked = b.asked; waiting = b.waiting; holes = map run_of h.holes; leases = b.leases }

module _ {P : Type 0} where
  abbrev pub desk_of : Holed → BookView → List (Option P) → ℕ → DeskView P
  desk_of h b payloads withdrawn = record {
    arena = h.arena;
    sizes = b.sizes;
    state = state_of h b;
    holes = h.holes;
    journal = b.journal;
    payloads = payloads;
    withdrawn = withdrawn;
  }

  -- the desk has leased just this run of its arena to the job
  abbrev pub IsLeaseOf : DeskView P → LeaseView → Type 0
  IsLeaseOf d l = (l.range.arena ≡ d.arena) × Knows d l

  pub record IsKept (number : P → ℕ) (cells : P → List Cell) (h : Holed) (b : BookView) (payloads : List (Option P)) (withdrawn : ℕ) : Type 0 where
    pub desk : IsDesk number cells (desk_of h b payloads withdrawn)
    -- its holes are over the whole arena
    pub base : h.base ≡ run 0 h.arena.cells
    -- the list of holes knows the leases as runs that are out, and has room for one of each job
    pub most_out : h.most_out ≡ length b.sizes
    pub out : AreReordered h.out (leased b.leases)
    pub few : withdrawn ≤ length b.journal

-- it is a desk of this arena, and of jobs with these numbers of cells
pub record IsNamed (arena : Arena) (sizes : List ℕ) (h : Holed) (b : BookView) : Type 0 where
  pub of_arena : h.arena ≡ arena
  pub of_sizes : b.sizes ≡ sizes

-- A lease on a desk of this arena, and of jobs with these numbers of cells: it is of the arena, and has as many cells
-- as its job's size.
pub record IsLease (arena : Arena) (sizes : List ℕ) (job : ℕ) (of : Arena) (size : ℕ) : Type 0 where
  pub of_arena : of ≡ arena
  pub sized : slice_get sizes job ≡ Some size
