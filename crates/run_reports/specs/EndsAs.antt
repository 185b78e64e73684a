-- Cited by contracts.
-- What is kept of a run's ending tells how it ended.
use Rattle.std.specs.Prelude.{◌≡◌, Some}
use Rattle.camelot_values.specs.Value.{Value}
use Rattle.camelot_values.specs.Outcome.{Outcome}
use Rattle.cell_machine.specs.declared.machine.Halt.{Halt}
use Rattle.cell_machine.specs.Endings.{halt_of}

-- a run that comes to this ends as what is kept of it tells
abbrev pub EndsAs : {K : Type 0} → (K → Halt) → Outcome Value → K → Type 0
EndsAs how outcome kept = halt_of outcome ≡ Some (how kept)
