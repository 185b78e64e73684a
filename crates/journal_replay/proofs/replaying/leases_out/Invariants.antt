use Rattle.std.proofs.Common.{◌≡◌, ◌≤◌, ◌+◌, ◌++◌, length}
use Rattle.journal_replay.specs.Replaying.{held_from}
use Rattle.journal_replay.proofs.replaying.leases_out.Given as goal

abbrev pub invariant-leases : goal.invariant-leases
invariant-leases l = record {
  told : l.all.items ++ held_from l.job l.rest ≡ held_from 0 l.leases;
  few : l.job + length l.rest ≤ 4294967295;
}

abbrev pub decreases-leases : goal.decreases-leases
decreases-leases l = length l.rest
