use Rattle.std.proofs.Common.{◌≡◌, None, replicate}
use Rattle.journal_replay.proofs.state.State.opened.Given as goal

abbrev pub invariant-loop-job : goal.invariant-loop-job
invariant-loop-job l = l.leases.items ≡ replicate l._job None
