use Rattle.std.proofs.Common.{ℕ, ◌≤◌}
use Rattle.sliced_jobs.specs.Table.{IsLeft, IsTable, left_of}
use Rattle.sliced_jobs.proofs.table.Table.join_all.Given as goal

abbrev pub invariant-joins : goal.invariant-joins
invariant-joins l = record {
  table : (asked arena : ℕ) → IsTable asked l.jobs arena l.initial.self → IsTable asked l.jobs arena l.self;
  less : left_of l.jobs l.self ≤ left_of l.jobs l.initial.self;
  left : IsLeft l.jobs l.initial.self → IsLeft l.jobs l.self;
}

abbrev pub decreases-joins : goal.decreases-joins
decreases-joins l = left_of l.jobs l.self
