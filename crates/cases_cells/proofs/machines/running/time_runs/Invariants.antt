use Rattle.std.proofs.Common.{◌≡◌, length}
use Rattle.cell_span.specs.Range.{IsWhole}
use Rattle.cell_machine.specs.Views.{IsStackFor}
use Rattle.grail_code.specs.Code.{code_of}
use Rattle.cases_cells.proofs.machines.running.time_runs.Given as goal

abbrev pub invariant-times : goal.invariant-times
invariant-times l = IsWhole l.place.span × (length l.place.span.cells ≡ l.job.lease) × IsStackFor (code_of l.job.code) l.place.stack
