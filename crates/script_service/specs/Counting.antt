-- Cited by contracts.
-- What of a run is kept for a summary.
use Rattle.std.specs.Prelude.{◌≡◌, Some}
use Rattle.camelot_values.specs.Value.{Value}
use Rattle.camelot_values.specs.Outcome.{Outcome}
use Rattle.cell_machine.specs.Endings.{halt_of}
use Rattle.script_service.specs.declared.counting.Tallied.{Tallied}

-- the run ends as is kept
abbrev pub Counts : Outcome Value → Tallied → Type 0
Counts o kept = halt_of o ≡ Some kept.halt
