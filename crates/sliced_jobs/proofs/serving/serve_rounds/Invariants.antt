use Rattle.std.proofs.Common.{length}
use Rattle.cell_machine.specs.Laid.{SameRange}
use Rattle.sliced_jobs.specs.Table.{IsTable, left_of}
use Rattle.sliced_jobs.proofs.serving.serve_rounds.Given as goal

abbrev pub invariant-rounds : goal.invariant-rounds
invariant-rounds l = record {
  table : IsTable l.steps l.jobs (length l.fn.span.cells) l.table;
  span : SameRange l.fn.span l.span;
}

abbrev pub decreases-rounds : goal.decreases-rounds
decreases-rounds l = left_of l.jobs l.table
