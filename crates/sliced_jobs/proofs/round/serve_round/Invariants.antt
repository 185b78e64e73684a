use Rattle.std.proofs.Common.{◌+◌, ◌-◌, ◌≤◌, length, take}
use Rattle.cell_machine.specs.Laid.{SameRange}
use Rattle.sliced_jobs.specs.Table.{IsTable, leased, left_of}
use Rattle.sliced_jobs.proofs.round.serve_round.Given as goal

abbrev pub invariant-turns : goal.invariant-turns
invariant-turns l = record {
  table : IsTable l.steps l.jobs (length l.fn.span.cells) l.table;
  span : SameRange l.fn.span l.span;
  many : l.turns ≤ l._turn + length l.table.going.items;
  room : l.at + leased l.jobs (take (l.turns - l._turn) l.table.going.items) ≤ length l.fn.span.cells;
  less : left_of l.jobs l.table + l._turn ≤ left_of l.jobs l.initial.table;
}
