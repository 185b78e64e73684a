use Rattle.std.proofs.Common.{◌≡◌, None, replicate}
use Rattle.sliced_jobs.proofs.table.no_endings.Given as goal

abbrev pub invariant-places : goal.invariant-places
invariant-places l = l.endings.items ≡ replicate l._place None
