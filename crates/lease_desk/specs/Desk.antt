-- Cited by contracts.
-- Desks: what one keeps, and what its answers say.
use Rattle.std.specs.Prelude.{◌≡◌, ℕ, ◌+◌, ◌<◌, ◌≤◌, List, [], ◌∷◌, ◌++◌, length, map, replicate, slice_get, slice_set, Option, Some, None}
use Rattle.std.specs.List.{AllByRecursion}
use Rattle.cell_span.specs.declared.cell.Cell.{Cell}
use Rattle.cell_span.specs.Arenas.{Arena}
use Rattle.cell_span.specs.Range.{Range}
use Rattle.hole_list.specs.Holes.{run_of, taken_cells, take_cells, give_cells}
use Rattle.lease_desk.specs.declared.event.Event.{Event}
use Rattle.lease_desk.specs.declared.event.Event.TheVariants as event
use Rattle.lease_desk.specs.Journal.{DeskState, opened, Move, move, gave, next_move, replay, AreSizes}
use Rattle.lease_desk.specs.Filing.{FiledCells, HoldsFiled}
use Rattle.lease_desk.specs.Progress.{gave_times}
use Rattle.lease_desk.specs.Lease.{LeaseView}

-- a desk: its arena, the size of each job, its state, the holes with their cells, the journal, the payload of each job
-- where one was filed, and how many leases were withdrawn
pub record DeskView (P : Type 0) : Type 0 where
  pub arena : Arena
  pub sizes : List ℕ
  pub state : DeskState
  pub holes : List Range
  pub journal : List Event
  pub payloads : List (Option P)
  pub withdrawn : ℕ

-- the event of a lease that is given
abbrev pub took_event : LeaseView → Event
took_event l = event.Took l.job l.range.first (length l.range.cells)

module _ {P : Type 0} where
  -- the cells that the payload in a place tells
  abbrev pub cells_in : (P → List Cell) → Option (Option P) → Option (List Cell)
  cells_in cells None = None
  cells_in cells (Some None) = None
  cells_in cells (Some (Some p)) = Some (cells p)

  -- the cells that each job filed: those of the payload in its place
  abbrev pub filed_by : (P → List Cell) → List (Option P) → FiledCells
  filed_by cells payloads job = cells_in cells (slice_get payloads job)

  -- ---- what a desk keeps

  -- for a payload's number and cells
  pub record IsDesk (number : P → ℕ) (cells : P → List Cell) (d : DeskView P) : Type 0 where
    pub some : 1 ≤ d.arena.cells
    pub fit : AreSizes d.arena.cells d.sizes
    -- its state is the one behind its journal
    pub replayed : replay d.arena.cells d.sizes d.journal ≡ Some d.state
    -- its holes are those of the state
    pub runs : map run_of d.holes ≡ d.state.holes
    pub of_arena : AllByRecursion (λ h. h.arena ≡ d.arena) d.holes
    -- each cell of a hole is the one that was filed
    pub holds : AllByRecursion (HoldsFiled (filed_by cells d.payloads) d.journal) d.holes
    -- a place for each job; a payload stands in the place of its number, and only where the job's lease came back
    pub places : length d.payloads ≡ length d.sizes
    pub own : (job : ℕ) (p : P) → slice_get d.payloads job ≡ Some (Some p) → (number p ≡ job) × (1 ≤ gave_times job d.journal)
    -- its cells are as many as its job's lease had
    pub sized : (job : ℕ) (p : P) → slice_get d.payloads job ≡ Some (Some p) → slice_get d.sizes job ≡ Some (length (cells p))
    -- and where none was withdrawn, each lease that came back left a payload
    pub all : d.withdrawn ≡ 0 → (job : ℕ) → 1 ≤ gave_times job d.journal → (p : P) × (slice_get d.payloads job ≡ Some (Some p))

  -- ---- what its answers say

  -- a new desk
  abbrev pub new_desk : Range → List ℕ → DeskView P
  new_desk range sizes = record {
    arena = range.arena;
    sizes = sizes;
    state = opened range.arena.cells (length sizes);
    holes = range ∷ [];
    journal = [];
    payloads = replicate (length sizes) None;
    withdrawn = 0;
  }

  -- with this state and these holes behind an event; the rest stays
  abbrev pub moved_on : DeskView P → DeskState → List Range → Event → DeskView P
  moved_on d s holes e = record {
    arena = d.arena;
    sizes = d.sizes;
    state = s;
    holes = holes;
    journal = d.journal ++ e ∷ [];
    payloads = d.payloads;
    withdrawn = d.withdrawn;
  }

  -- The move takes this lease: the front of the first hole that has cells enough, with the cells that it had.
  pub record Takes (next : Option Move) (old new : DeskView P) (l : LeaseView) : Type 0 where
    pub told : next ≡ Some (move (took_event l) new.state)
    pub cells : take_cells old.holes (length l.range.cells) ≡ Some (taken_cells l.range new.holes)
    pub arena : l.range.arena ≡ old.arena
    -- the job had no lease, and has this one from now on
    pub free : slice_get old.state.leases l.job ≡ Some None
    pub leases : new.state.leases ≡ slice_set old.state.leases l.job (Some (run_of l.range))
    pub rest : new ≡ moved_on old new.state new.holes (took_event l)

  -- The next job waits: no hole has the cells that it needs.
  pub record Waits (old new : DeskView P) (job need largest : ℕ) : Type 0 where
    pub told : next_move old.sizes old.state ≡ Some (move (event.Full job need largest) new.state)
    pub short : largest < need
    -- the leases stay
    pub leases : new.state.leases ≡ old.state.leases
    pub rest : new ≡ moved_on old new.state old.holes (event.Full job need largest)

  -- No job waits, and all stays.
  abbrev pub NoneLeft : (old new : DeskView P) → Type 0
  NoneLeft old new = (old.state.waiting ≡ []) × (new ≡ old)

  -- the lease's run and cells are a hole again
  abbrev pub given_back : DeskView P → LeaseView → List (Option P) → (withdrawn : ℕ) → DeskView P
  given_back d l payloads withdrawn = record {
    arena = d.arena;
    sizes = d.sizes;
    state = gave d.state l.job (run_of l.range);
    holes = give_cells d.holes l.range;
    journal = d.journal ++ event.Gave l.job l.range.first (length l.range.cells) ∷ [];
    payloads = payloads;
    withdrawn = withdrawn;
  }

  -- with this payload in the place of its lease's job
  abbrev pub filed_with : DeskView P → LeaseView → P → DeskView P
  filed_with d l p = given_back d l (slice_set d.payloads l.job (Some p)) d.withdrawn

  -- with no payload
  abbrev pub withdrawn_with : DeskView P → LeaseView → DeskView P
  withdrawn_with d l = given_back d l d.payloads (d.withdrawn + 1)

  -- The desk has leased just this run to the job. Of which arena the run is, isn't asked: a lease's type says it.
  abbrev pub Knows : DeskView P → LeaseView → Type 0
  Knows d l = slice_get d.state.leases l.job ≡ Some (Some (run_of l.range))

  -- ---- payloads

  -- the job's place has a payload of its number
  abbrev pub HasPayload : (P → ℕ) → List (Option P) → (job : ℕ) → Type 0
  HasPayload number payloads job = (p : P) × (slice_get payloads job ≡ Some (Some p)) × (number p ≡ job)

  -- every job has its payload
  abbrev pub AllFiled : (P → ℕ) → (jobs : ℕ) → List (Option P) → Type 0
  AllFiled number jobs payloads = (job : ℕ) → job < jobs → HasPayload number payloads job
