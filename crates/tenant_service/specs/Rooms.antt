-- Cited by contracts.
-- The room of one tenant: the free runs of its piece, counted from the piece's first cell, and the jobs that it holds.
-- What it is told of its own lines, one after the other, is a function of its budget and of these lines alone.
use Rattle.std.specs.Prelude.{ℕ, ◌+◌, nat_lt, if◌then◌else◌, List, [], ◌∷◌, ◌++◌, Option, Some, None}
use Rattle.std.specs.Str.{bytes_eq}
use Rattle.hole_list.specs.declared.run.Run.{Run}
use Rattle.hole_list.specs.Placing.{run, Taken, take_run, give_run, largest}
use Rattle.run_reports.specs.declared.outcome.JobCause.{JobCause}
use Rattle.run_reports.specs.Told.{JobLine}
use Rattle.script_plans.specs.Fates.{Call, Fate, Unfit, Calls, lease_of, ended_line}

-- ---- what a tenant has

-- a job that was started and isn't finished: its name, its call with so much fuel, and its run of cells
pub record Holding : Type 0 where
  pub name : List ℕ
  pub call : Call
  pub fuel : ℕ
  pub place : Run

pub record Room : Type 0 where
  pub holes : List Run
  pub held : List Holding

-- at first the whole piece is free
abbrev pub whole : (budget : ℕ) → Room
whole budget = record { holes = run 0 budget ∷ []; held = [] }

-- the cells of all jobs that are held
abbrev pub cells_held : List Holding → ℕ
cells_held [] = 0
cells_held (h ∷ hs) = h.place.size + cells_held hs

-- the job of this name that is held, and the others
abbrev pub held_named : List Holding → (name : List ℕ) → Option Holding
held_named [] name = None
held_named (h ∷ hs) name = if bytes_eq h.name name then Some h else held_named hs name

abbrev pub without_named : List Holding → (name : List ℕ) → List Holding
without_named [] name = []
without_named (h ∷ hs) name = if bytes_eq h.name name then hs else h ∷ without_named hs name

-- ---- lines and replies

-- the start of a job of this name, with what comes of its call; or the finish of the job of this name
pub data Own : Type 0 where
  Starts : (name : List ℕ) → (fuel : ℕ) → Fate → Own
  Finishes : (name : List ℕ) → Own

-- To a start, the first of these that fits: a job of this name is held; the job is refused; with it the tenant would hold
-- more than its budget; no hole of its piece is as large; it has its cells. To a finish: no job of this name is held; or
-- what its run came to.
pub data Reply : Type 0 where
  Holds : (name : List ℕ) → Reply
  Refuses : (name : List ℕ) → JobCause → Reply
  IsOver : (name : List ℕ) → (held size budget : ℕ) → Reply
  IsFull : (name : List ℕ) → (need most : ℕ) → Reply
  Started : (name : List ℕ) → (first size : ℕ) → Reply
  Absent : (name : List ℕ) → Reply
  Finished : (name : List ℕ) → JobLine → Reply

pub record Step : Type 0 where
  pub room : Room
  pub reply : Reply

abbrev pub told : Room → Reply → Step
told room reply = record { room = room; reply = reply }

-- the room with one more job
abbrev pub with_job : Room → (name : List ℕ) → Call → (fuel : ℕ) → Taken → Room
with_job room name c fuel t = record { holes = t.holes; held = room.held ++ record { name = name; call = c; fuel = fuel; place = t.run } ∷ [] }

-- the job gets the front of the first hole that has as many cells as its lease, where there is one
abbrev pub placed : Room → (name : List ℕ) → Call → (fuel : ℕ) → Option Taken → Step
placed room name c fuel None = told room (IsFull name (lease_of c) (largest room.holes))
placed room name c fuel (Some t) = told (with_job room name c fuel t) (Started name t.run.first t.run.size)

-- within the budget
abbrev pub asked : (budget : ℕ) → Room → (name : List ℕ) → Call → (fuel : ℕ) → Step
asked budget room name c fuel =
    if nat_lt budget (cells_held room.held + lease_of c)
    then told room (IsOver name (cells_held room.held) (lease_of c) budget)
    else placed room name c fuel (take_run room.holes (lease_of c))

-- by what comes of the call
abbrev pub by_fate : (budget : ℕ) → Room → (name : List ℕ) → (fuel : ℕ) → Fate → Step
by_fate budget room name fuel (Unfit cause) = told room (Refuses name cause)
by_fate budget room name fuel (Calls c) = asked budget room name c fuel

-- a start, where this is held under its name
abbrev pub started : (budget : ℕ) → Room → (name : List ℕ) → (fuel : ℕ) → Fate → Option Holding → Step
started budget room name fuel fate (Some h) = told room (Holds name)
started budget room name fuel fate None = by_fate budget room name fuel fate

-- the room without the job of this name, whose run becomes a hole
abbrev pub without_job : Room → (name : List ℕ) → Holding → Room
without_job room name h = record { holes = give_run room.holes h.place; held = without_named room.held name }

-- a finish, where this is held under its name
abbrev pub finished : Room → (name : List ℕ) → Option Holding → Step
finished room name None = told room (Absent name)
finished room name (Some h) = told (without_job room name h) (Finished name (ended_line h.fuel h.call))

-- one line
abbrev pub step : (budget : ℕ) → Room → Own → Step
step budget room (Starts name fuel fate) = started budget room name fuel fate (held_named room.held name)
step budget room (Finishes name) = finished room name (held_named room.held name)

-- ---- all lines of a tenant

abbrev pub replies : (budget : ℕ) → Room → List Own → List Reply
replies budget room [] = []
replies budget room (o ∷ os) = (step budget room o).reply ∷ replies budget (step budget room o).room os

-- its room behind them
abbrev pub room_after : (budget : ℕ) → Room → List Own → Room
room_after budget room [] = room
room_after budget room (o ∷ os) = room_after budget (step budget room o).room os
