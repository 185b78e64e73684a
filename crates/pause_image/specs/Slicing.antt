-- Cited by contracts.
-- A slice of a run: so many steps, and then as many as it takes until nothing is lent.
use Rattle.std.specs.Prelude.{◌≡◌, ℕ, ◌<◌, ◌≤◌, Bool, true, false, ◌∷◌}
use Rattle.std.specs.List.{list_any}
use Rattle.camelot_values.specs.Value.{Value}
use Rattle.camelot_values.specs.Outcome.{Outcome}
use Rattle.grail_code.specs.Code.{Code}
use Rattle.frame_locals.specs.Lending.{lends_at}
use Rattle.cell_machine.specs.Coming.{IsOnCourse}
use Rattle.cell_machine.specs.Endings.{EndsWith}
use Rattle.cell_machine.specs.Loading.{steps}
use Rattle.cell_machine.specs.Running.{IsRunning}
use Rattle.cell_machine.specs.State.{Activation, Configuration, Final, Running, Over, most_calls}
use Rattle.cell_machine.specs.Views.{MachineView}
use Rattle.cell_machine.specs.declared.machine.Ending.{Ending}

abbrev pub frame_lends : Code → Activation → Bool
frame_lends p fr = lends_at p fr.func fr.block

-- a frame has a lent local that is ready
abbrev pub state_lends : Code → Configuration → Bool
state_lends p s = list_any (frame_lends p) (s.frame ∷ s.waiting)

-- after so many steps the run goes on, and something is lent
pub record LendsAfter (p : Code) (s : Configuration) (n : ℕ) : Type 0 where
  pub state : Configuration
  pub is : steps p most_calls n (Running s) ≡ Running state
  pub lends : state_lends p state ≡ true

-- The slice ends in a state in which nothing is lent. Of the numbers of steps from the one asked for on behind which
-- that is so, it is the least.
pub record IsSliced (old new : MachineView) (asked : ℕ) : Type 0 where
  pub running : IsRunning new
  pub count : ℕ
  pub many : asked ≤ count
  pub are : steps old.code most_calls count (Running old.state) ≡ Running new.state
  pub unlent : state_lends old.code new.state ≡ false
  pub least : (n : ℕ) → asked ≤ n → n < count → LendsAfter old.code old.state n

-- The run ended in the slice, with its last step: its cells are those that are left, and the ending is that of each
-- outcome to which it was on its way. After the steps asked for, something was lent before each step.
pub record IsOverIn (old new : MachineView) (asked : ℕ) (ending : Ending) : Type 0 where
  pub final : Final
  pub count : ℕ
  pub are : steps old.code most_calls count (Running old.state) ≡ Over final
  pub cells : final.cells ≡ new.state.cells
  pub right : (room : ℕ) (outcome : Outcome Value) → IsOnCourse old.code most_calls room outcome old.state → EndsWith outcome ending
  pub least : (n : ℕ) → asked ≤ n → n < count → LendsAfter old.code old.state n
