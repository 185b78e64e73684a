use Rattle.std.proofs.Common.{length, subst}
use Rattle.sliced_jobs.specs.Table.{IsTable}
use Rattle.sliced_jobs.proofs.Served.{all_ended, all_slices}
use Rattle.sliced_jobs.proofs.serving.serve_sliced.Goals as goal

pub serve_rounds-requires-clause-table : goal.serve_rounds-requires-clause-table
serve_rounds-requires-clause-table c = subst (λ n. IsTable c.args.steps c.args.jobs.now n c.in-Ok.table) c.len.ensures.count (c.in-Ok.ensures c.args.steps)

pub returns-in-Ok-serve_rounds-clause-ended : goal.returns-in-Ok-serve_rounds-clause-ended
returns-in-Ok-serve_rounds-clause-ended c = all_ended c.args.steps (length c.args.span.cells) c.args.jobs.now c.serve_rounds.new.table c.in-Ok-serve_rounds.ensures.table
    c.in-Ok-serve_rounds.ensures.all c.in-Ok-serve_rounds.ensures.none

pub returns-in-Ok-serve_rounds-clause-slices : goal.returns-in-Ok-serve_rounds-clause-slices
returns-in-Ok-serve_rounds-clause-slices c = all_slices c.args.steps (length c.args.span.cells) c.args.jobs.now c.serve_rounds.new.table c.deref.result.now c.total-slices.result
    c.in-Ok-serve_rounds.ensures.table c.in-Ok-serve_rounds.ensures.all c.in-Ok-serve_rounds.ensures.none c.total-slices.ensures c.deref.ensures.value
