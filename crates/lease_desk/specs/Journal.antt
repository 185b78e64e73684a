-- Cited by contracts.
-- Journals of leases. A desk is asked for one job after the other, and each is given the front of the first hole that
-- has cells enough; a job for which no hole has waits, and is taken once all were asked and no lease is out. A journal
-- is legal where each event of it is what the desk's next move tells.
use Rattle.std.specs.Prelude.{◌≡◌, ℕ, suc, ◌≤◌, ◌==◌, ◌&&◌, true, false, Bool, if◌then◌else◌, List, [], ◌∷◌, ◌++◌, length, replicate, slice_get, slice_set, Option, Some, None}
use Rattle.std.specs.List.{AllByRecursion}
use Rattle.std.specs.Option.{option_map}
use Rattle.hole_list.specs.declared.run.Run.{Run}
use Rattle.hole_list.specs.Placing.{run, Taken, take_run, give_run, largest}
use Rattle.lease_desk.specs.declared.event.Event.{Event}
use Rattle.lease_desk.specs.declared.event.Event.TheVariants as event

-- ---- the state of a desk

-- how many jobs were asked; those that wait, in order; the holes; and the lease of each job, where it is out
pub record DeskState : Type 0 where
  pub asked : ℕ
  pub waiting : List ℕ
  pub holes : List Run
  pub leases : List (Option Run)

-- at first the arena is one hole
abbrev pub opened : (arena jobs : ℕ) → DeskState
opened arena jobs = record { asked = 0; waiting = []; holes = run 0 arena ∷ []; leases = replicate jobs None }

-- the runs of the leases that are out
abbrev pub leased : List (Option Run) → List Run
leased [] = []
leased (None ∷ ls) = leased ls
leased (Some r ∷ ls) = r ∷ leased ls

-- ---- moves

-- an event, and the state behind it
pub record Move : Type 0 where
  pub event : Event
  pub state : DeskState

abbrev pub move : Event → DeskState → Move
move e s = record { event = e; state = s }

-- the job's lease is this run, of these holes; it is the next one that is asked
abbrev pub took_next : DeskState → ℕ → Taken → DeskState
took_next s job t = record { asked = suc s.asked; waiting = s.waiting; holes = t.holes; leases = slice_set s.leases job (Some t.run) }

-- it waits
abbrev pub waits : DeskState → ℕ → DeskState
waits s job = record { asked = suc s.asked; waiting = s.waiting ++ job ∷ []; holes = s.holes; leases = s.leases }

-- its lease is this run, and these go on waiting
abbrev pub took_left : DeskState → List ℕ → ℕ → Taken → DeskState
took_left s waiting job t = record { asked = s.asked; waiting = waiting; holes = t.holes; leases = slice_set s.leases job (Some t.run) }

-- its lease, which is this run, is a hole again
abbrev pub gave : DeskState → ℕ → Run → DeskState
gave s job r = record { asked = s.asked; waiting = s.waiting; holes = give_run s.holes r; leases = slice_set s.leases job None }

-- asking for a job of this size
abbrev pub asked_for : DeskState → (job size : ℕ) → Option Taken → Move
asked_for s job size None = move (event.Full job size (largest s.holes)) (waits s job)
asked_for s job size (Some t) = move (event.Took job t.run.first size) (took_next s job t)

-- asking for the next job that wasn't asked for; none where all were
abbrev pub next_move : (sizes : List ℕ) → DeskState → Option Move
next_move sizes s = option_map (λ size. asked_for s s.asked size (take_run s.holes size)) (slice_get sizes s.asked)

-- the job that waits first is taken
abbrev pub left_with : DeskState → List ℕ → (job : ℕ) → Option ℕ → Option Move
left_with s waiting job None = None
left_with s waiting job (Some size) = option_map (λ t. move (event.Took job t.run.first size) (took_left s waiting job t)) (take_run s.holes size)

abbrev pub first_left : (sizes : List ℕ) → DeskState → List ℕ → Option Move
first_left sizes s [] = None
first_left sizes s (job ∷ waiting) = left_with s waiting job (slice_get sizes job)

abbrev pub is_none_out : List (Option Run) → Bool
is_none_out [] = true
is_none_out (None ∷ ls) = is_none_out ls
is_none_out (Some r ∷ ls) = false

-- once all were asked for and no lease is out; none where none waits
abbrev pub left_move : (sizes : List ℕ) → DeskState → Option Move
left_move sizes s = if (s.asked == length sizes) && is_none_out s.leases then first_left sizes s s.waiting else None

-- the lease of a job goes back; none where it isn't out
abbrev pub give_lease : DeskState → (job : ℕ) → Option (Option Run) → Option Move
give_lease s job None = None
give_lease s job (Some None) = None
give_lease s job (Some (Some r)) = Some (move (event.Gave job r.first r.size) (gave s job r))

abbrev pub give_move : DeskState → (job : ℕ) → Option Move
give_move s job = give_lease s job (slice_get s.leases job)

-- ---- journals

abbrev pub is_event : Event → Event → Bool
is_event (event.Took job first size) (event.Took job' first' size') = (job == job') && ((first == first') && (size == size'))
is_event (event.Full job need largest) (event.Full job' need' largest') = (job == job') && ((need == need') && (largest == largest'))
is_event (event.Gave job first size) (event.Gave job' first' size') = (job == job') && ((first == first') && (size == size'))
is_event e e' = false

abbrev pub job_of : Event → ℕ
job_of (event.Took job first size) = job
job_of (event.Full job need largest) = job
job_of (event.Gave job first size) = job

-- the state behind the move, where it tells this event
abbrev pub as_told : Event → Option Move → Option DeskState
as_told e None = None
as_told e (Some m) = if is_event e m.event then Some m.state else None

abbrev pub or_else : Option DeskState → Option DeskState → Option DeskState
or_else None other = other
or_else (Some s) other = Some s

-- the state behind an event that a move of the desk tells; none where no move does
unfoldable pub after_event : (sizes : List ℕ) → DeskState → Event → Option DeskState
after_event sizes s e = or_else (as_told e (next_move sizes s)) (or_else (as_told e (left_move sizes s)) (as_told e (give_move s (job_of e))))

abbrev pub after_events : (sizes : List ℕ) → Option DeskState → List Event → Option DeskState
after_events sizes o [] = o
after_events sizes None (e ∷ es) = None
after_events sizes (Some s) (e ∷ es) = after_events sizes (after_event sizes s e) es

-- the state behind a journal; none where an event isn't the next move of a desk behind the events before it. Whether
-- the sizes fit the arena isn't asked here.
unfoldable pub replay : (arena : ℕ) → (sizes : List ℕ) → List Event → Option DeskState
replay arena sizes journal = after_events sizes (Some (opened arena (length sizes))) journal

-- each job has at least one cell, and no more than the arena
abbrev pub AreSizes : (arena : ℕ) → (sizes : List ℕ) → Type 0
AreSizes arena sizes = AllByRecursion (λ size. (1 ≤ size) × (size ≤ arena)) sizes

-- every job was asked for, none waits, and no lease is out
pub record IsOver (sizes : List ℕ) (s : DeskState) : Type 0 where
  pub all : s.asked ≡ length sizes
  pub none_waits : s.waiting ≡ []
  pub none_out : leased s.leases ≡ []

-- a journal of jobs of these sizes, from the first event to the last
pub record IsLegal (arena : ℕ) (sizes : List ℕ) (journal : List Event) : Type 0 where
  pub fit : AreSizes arena sizes
  pub last : DeskState
  pub replayed : replay arena sizes journal ≡ Some last
  pub over : IsOver sizes last
