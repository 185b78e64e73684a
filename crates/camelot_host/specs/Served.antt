-- Cited by contracts.
-- What a run of the host hands out: its status, and the arena that it leaves.
use Rattle.std.specs.Prelude.{◌≡◌, ℕ, List, Option, Some, None}
use Rattle.cell_span.specs.Range.{Range}
use Rattle.host_io.specs.Sink.{Tells}
use Rattle.script_service.specs.Service.{IsReportIn}
use Rattle.camelot_host.specs.Commands.{Command, Serve, Compile, Verify, Migrate, Tenants, Sliced, Drill, IsCommand, reads}
use Rattle.camelot_host.specs.Answers.{Devices, HasRead}
use Rattle.camelot_host.specs.declared.status.Status.{Status}
use Rattle.camelot_host.specs.declared.status.Status.TheVariants as status

-- a status, and an arena
pub record ServedView : Type 0 where
  pub status : Status
  pub arena : Option Range

-- The arena that a command leaves beside its output. A report leaves the whole arena of its script: each cell is the
-- one that the machine left there for the last job whose lease went over it, by the journal that is printed, and a
-- blank one where none did. No other command has an arena.
abbrev pub Leaves : Command → (input output : List ℕ) → Option Range → Type 0
Leaves Serve input output (Some arena) = IsReportIn input output arena
Leaves Serve input output None = ⊥
Leaves Compile input output arena = arena ≡ None
Leaves Verify input output arena = arena ≡ None
Leaves Migrate input output arena = arena ≡ None
Leaves Tenants input output arena = arena ≡ None
Leaves (Sliced steps) input output arena = arena ≡ None
Leaves (Drill jobs workers) input output arena = arena ≡ None

-- The command's input was read, an output for it was told whole, and this is the arena that it leaves.
pub record LeftBehind (words : List (List ℕ)) (before after : Devices) (arena : Option Range) : Type 0 where
  pub command : Command
  pub spelled : IsCommand words command
  pub input : List ℕ
  pub read : HasRead (reads command) before after input
  pub output : List ℕ
  pub whole : Tells before.told after.told output
  pub leaves : Leaves command input output arena

-- the arena by the status: there is one only where the command was done
abbrev pub ArenaBy : Status → List (List ℕ) → (before after : Devices) → Option Range → Type 0
ArenaBy status.Ok words before after arena = LeftBehind words before after arena
ArenaBy s words before after arena = arena ≡ None
