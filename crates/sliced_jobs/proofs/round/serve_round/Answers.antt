use Rattle.std.proofs.Common.{◌-◌, arith}
use Rattle.sliced_jobs.proofs.Tables.{leased_first}
use Rattle.sliced_jobs.proofs.round.serve_round.Goals as goal

pub serve_first-requires-clause-room : goal.serve_first-requires-clause-room
serve_first-requires-clause-room c = omega (
  arith,
  leased_first c.args.jobs.now (c.under_way-turns.result - c.turns._turn) c.turns.table.going.items (omega (arith, c.turns-test.true)),
  c.turns.invariant.room,
  c.turns.invariant.span.cells,
)
