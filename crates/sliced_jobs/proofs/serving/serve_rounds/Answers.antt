use Rattle.std.proofs.Common.{length, sym, subst, arith}
use Rattle.sliced_jobs.specs.Table.{IsTable}
use Rattle.sliced_jobs.proofs.serving.serve_rounds.Goals as goal

pub serve_round-requires-clause-table : goal.serve_round-requires-clause-table
serve_round-requires-clause-table c = subst (λ n. IsTable c.args.steps c.args.jobs.now n c.join_all.new.self) (sym c.rounds.invariant.span.cells)
    (c.in-Ok.ensures.table c.args.steps (length c.args.span.cells) c.rounds.invariant.table)

pub rounds-smaller : goal.rounds-smaller
rounds-smaller c = omega (
  arith,
  c.in-Ok.ensures.less,
  c.in-Ok-serve_round.ensures.less,
  c.in-Ok.ensures.some c.args.steps (length c.args.span.cells) c.rounds.invariant.table c.requires.sizes (c.is_left.ensures.more c.rounds-test.true),
)
