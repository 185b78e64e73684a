-- Cited by contracts.
-- States that fit code and its amounts, and are sound, balanced and counted.
use Rattle.std.specs.Prelude.{◌≡◌, ℕ, ◌+◌, ◌≤◌, length, Option, Some, None}
use Rattle.grail_code.specs.Code.{Code}
use Rattle.licence.specs.Books.{Book}
use Rattle.cell_machine.specs.State.{Configuration, Machine, Running, Over}
use Rattle.cell_machine.specs.Sound.{IsSound}
use Rattle.cell_machine.specs.Demands.{IsBalanced}

-- A sound and balanced state; the net number of cells, which is the peak without `low`, and the free cells together
-- aren't below 0; and at most so many calls wait.
pub record IsFit (p : Code) (book : Book ℕ) (limit : ℕ) (s : Configuration) : Type 0 where
  pub sound : IsSound p s
  pub balanced : IsBalanced p book s sound
  pub counted : s.low ≤ length sound.free + s.peak
  pub few : length s.waiting ≤ limit

-- A state behind a step from `s`. It is such a state again, and net and free cells together are the room, as before.
-- It has as many cells, and calls and fuel together are as many. Its peak is the old one or within the room.
pub record IsFitBehind (p : Code) (book : Book ℕ) (limit room : ℕ) (s t : Configuration) : Type 0 where
  pub fit : IsFit p book limit t
  pub balance : length fit.sound.free + t.peak ≡ room + t.low
  pub cells : length t.cells ≡ length s.cells
  pub fuel : t.calls + t.fuel ≡ s.calls + s.fuel
  pub peak : (top : ℕ) → s.peak ≤ top → room ≤ top → t.peak ≤ top

-- There is a step; behind it stands such a state, or the run is over, with as many cells.
abbrev pub StaysFit : (p : Code) (book : Book ℕ) (limit room : ℕ) (s : Configuration) → Option Machine → Type 0
StaysFit p book limit room s None = ⊥
StaysFit p book limit room s (Some (Running t)) = IsFitBehind p book limit room s t
StaysFit p book limit room s (Some (Over f)) = length f.cells ≡ length s.cells

-- a machine that goes on is in such a state
abbrev pub MachineFits : (p : Code) (book : Book ℕ) (limit : ℕ) → Machine → Type 0
MachineFits p book limit (Running s) = IsFit p book limit s
MachineFits p book limit (Over f) = Unit {0}
