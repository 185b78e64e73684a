-- Laws, for what is kept of endings.
-- No ending is that of a run that is stuck.
use Rattle.camelot_values.specs.Outcome as plain
use Rattle.cell_machine.specs.Endings.{EndsWith}
use Rattle.cell_machine.specs.declared.machine.Ending.{Ending}
use Rattle.cell_machine.specs.declared.machine.Ending.TheVariants as ending

pub ends_never_stuck : (e : Ending) → EndsWith plain.Stuck e → ⊥
ends_never_stuck (ending.Done v calls peak) h = h
ends_never_stuck (ending.Fuel peak) h = h
ends_never_stuck (ending.Deep peak) h = h
ends_never_stuck (ending.Trap peak) h = h
