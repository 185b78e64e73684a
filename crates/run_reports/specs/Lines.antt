-- Private: words for functions of this crate.
-- The lines of jobs as functions of the code's own.
use Rattle.std.specs.Prelude.{List, slice_get}
use Rattle.camelot_values.specs.Value.{Value}
use Rattle.camelot_values.specs.Outcome as plain
use Rattle.licence.specs.Licensed.{Licensed}
use Rattle.cell_machine.specs.declared.machine.Ending.{Ending}
use Rattle.cell_machine.specs.declared.machine.Ending.TheVariants as ending
use Rattle.cell_machine.specs.declared.machine.Halt.{Halt}
use Rattle.run_reports.specs.declared.outcome.JobLine.{JobLine as DeclaredLine}
use Rattle.run_reports.specs.declared.outcome.JobLine.TheVariants as line
use Rattle.run_reports.specs.declared.summing.Tally.{Tally}
use Rattle.run_reports.specs.Told.{JobLine, Ended, TooLarge, Refused, licence_types}
use Rattle.run_reports.specs.Summary.{tally_of_halt, one_too_large, one_refused}

-- an outcome that ends so; an ending tells neither how far the net lies below the peak, nor how many calls a run made
-- that stopped
abbrev pub outcome_of : Ending → plain.Outcome Value
outcome_of (ending.Done v calls peak) = plain.Done v calls peak 0
outcome_of (ending.Fuel peak) = plain.Fuel 0 peak
outcome_of (ending.Deep peak) = plain.Deep peak
outcome_of (ending.Trap peak) = plain.Trap peak

abbrev pub line_of : List Licensed → DeclaredLine Ending → JobLine
line_of licences (line.Ended ending fuel bound licence) = Ended (licence_types (slice_get licences licence)) (outcome_of ending.now) fuel bound
line_of licences (line.TooLarge needs arena) = TooLarge needs arena
line_of licences (line.Refused cause) = Refused cause

-- what a line counts for, by what is kept of the ending
abbrev pub line_tally : {K : Type 0} → (K → Halt) → DeclaredLine K → Tally
line_tally how (line.Ended kept fuel bound licence) = tally_of_halt (how kept.now)
line_tally how (line.TooLarge needs arena) = one_too_large
line_tally how (line.Refused cause) = one_refused
