use Rattle.std.proofs.Common.{◌≡◌, replicate}
use Rattle.sliced_jobs.proofs.table.zeros.Given as goal

abbrev pub invariant-places : goal.invariant-places
invariant-places l = l.numbers.items ≡ replicate l._place 0
