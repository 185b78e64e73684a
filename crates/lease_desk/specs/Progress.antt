-- Cited by contracts.
-- How often a job occurs: among those that wait, among the leases that are out, and in a journal; and what holds of the
-- state behind each journal.
use Rattle.std.specs.Prelude.{◌≡◌, ℕ, ◌+◌, ◌*◌, ◌≤◌, ◌==◌, nat_lt, Bool, if◌then◌else◌, List, [], ◌∷◌, length, slice_get, Option, Some, None}
use Rattle.hole_list.specs.declared.run.Run.{Run}
use Rattle.hole_list.specs.Placing.{run, AreApart, AreParts, total}
use Rattle.lease_desk.specs.declared.event.Event.{Event}
use Rattle.lease_desk.specs.declared.event.Event.TheVariants as event
use Rattle.lease_desk.specs.Journal.{DeskState, leased}

-- 1 for yes
abbrev pub one_if : Bool → ℕ
one_if b = if b then 1 else 0

-- how often the job is in the list
abbrev pub times_at : ℕ → List ℕ → ℕ
times_at job [] = 0
times_at job (j ∷ js) = one_if (j == job) + times_at job js

-- 1 where the lease at this place is out
abbrev pub one_out : Option (Option Run) → ℕ
one_out None = 0
one_out (Some None) = 0
one_out (Some (Some r)) = 1

abbrev pub one_took : ℕ → Event → ℕ
one_took job (event.Took j first size) = one_if (j == job)
one_took job (event.Full j need largest) = 0
one_took job (event.Gave j first size) = 0

abbrev pub one_gave : ℕ → Event → ℕ
one_gave job (event.Took j first size) = 0
one_gave job (event.Full j need largest) = 0
one_gave job (event.Gave j first size) = one_if (j == job)

-- how many Took and how many Gave of the job the journal has
abbrev pub took_times : ℕ → List Event → ℕ
took_times job [] = 0
took_times job (e ∷ es) = one_took job e + took_times job es

abbrev pub gave_times : ℕ → List Event → ℕ
gave_times job [] = 0
gave_times job (e ∷ es) = one_gave job e + gave_times job es

-- 1 where the job was asked for
abbrev pub one_asked : ℕ → DeskState → ℕ
one_asked job s = one_if (nat_lt job s.asked)

-- What holds of the state behind a journal of jobs of these sizes.
pub record IsSound (arena : ℕ) (sizes : List ℕ) (journal : List Event) (s : DeskState) : Type 0 where
  -- a place for each job, and no more were asked for than there are
  pub places : length s.leases ≡ length sizes
  pub most : s.asked ≤ length sizes
  -- each cell of the arena is in just one hole or lease, and no other cell is in any
  pub cells : AreParts (run 0 arena) s.holes (leased s.leases)
  -- their sizes add up to the arena
  pub sum : total s.holes + total (leased s.leases) ≡ arena
  -- holes ascend, and no two meet
  pub apart : AreApart s.holes
  -- a lease that is out has the size of its job
  pub sized : (job : ℕ) (r : Run) → slice_get s.leases job ≡ Some (Some r) → slice_get sizes job ≡ Some r.size
  -- a job that was asked for waits, or is out, or was given back; each of these once, and any other job is in none
  pub once : (job : ℕ) → times_at job s.waiting + one_out (slice_get s.leases job) + gave_times job journal ≡ one_asked job s
  -- a job that was asked for was taken once, unless it waits
  pub took : (job : ℕ) → times_at job s.waiting + took_times job journal ≡ one_asked job s
  -- at most three events for each job that was asked for
  pub few : length journal + 2 * length s.waiting + length (leased s.leases) ≤ 3 * s.asked
