-- Cited by contracts.
-- What a journal comes to: the holes, and the leases that are out.
use Rattle.std.specs.Prelude.{ℕ, suc, nat_le, ◌&&◌, Bool, true, if◌then◌else◌, List, [], ◌∷◌, Option, Some, None}
use Rattle.std.specs.Option.{option_map}
use Rattle.hole_list.specs.declared.run.Run.{Run}
use Rattle.lease_desk.specs.declared.event.Event.{Event}
use Rattle.lease_desk.specs.Journal as journal
use Rattle.journal_replay.specs.declared.told.Held.{Held}
use Rattle.journal_replay.specs.declared.told.DeskState.{DeskState}

-- the holes, and the leases that are out
pub record Told : Type 0 where
  pub holes : List Run
  pub leases : List Held

abbrev pub told_of : DeskState → Told
told_of s = record { holes = s.holes.items; leases = s.leases.items }

abbrev pub held : ℕ → Run → Held
held job r = record { job = job; run = r }

-- the leases that are out, the first of these being that of this job
abbrev pub held_from : ℕ → List (Option Run) → List Held
held_from job [] = []
held_from job (None ∷ ls) = held_from (suc job) ls
held_from job (Some r ∷ ls) = held job r ∷ held_from (suc job) ls

abbrev pub told_in : journal.DeskState → Told
told_in s = record { holes = s.holes; leases = held_from 0 s.leases }

-- whether each job has at least one cell, and no more than the arena
abbrev pub are_sizes : (arena : ℕ) → (sizes : List ℕ) → Bool
are_sizes arena [] = true
are_sizes arena (size ∷ sizes) = (nat_le 1 size && nat_le size arena) && are_sizes arena sizes

-- What a journal of jobs of these sizes comes to; none where a size doesn't fit the arena, or an event isn't the next
-- move of a desk behind the events before it.
abbrev pub replayed : (arena : ℕ) → (sizes : List ℕ) → List Event → Option Told
replayed arena sizes events = if are_sizes arena sizes then option_map told_in (journal.replay arena sizes events) else None
