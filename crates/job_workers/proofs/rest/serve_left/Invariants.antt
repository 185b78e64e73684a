use Rattle.std.proofs.Common.{◌≡◌, [], length}
use Rattle.lease_desk.specs.Journal.{leased}
use Rattle.job_workers.proofs.rest.serve_left.Given as goal

abbrev pub invariant-turns : goal.invariant-turns
invariant-turns g l = record {
  none_out : leased l.desk.state.leases ≡ [];
  asked : l.desk.state.asked ≡ length g.N.DeskName.sizes;
}

abbrev pub decreases-turns : goal.decreases-turns
decreases-turns g l = length l.desk.state.waiting
