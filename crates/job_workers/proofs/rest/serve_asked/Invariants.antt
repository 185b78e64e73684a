use Rattle.std.proofs.Common.{◌≡◌, [], length, ◌-◌}
use Rattle.lease_desk.specs.Journal.{leased}
use Rattle.job_workers.proofs.rest.serve_asked.Given as goal

abbrev pub invariant-turns : goal.invariant-turns
invariant-turns g l = leased l.desk.state.leases ≡ []

abbrev pub decreases-turns : goal.decreases-turns
decreases-turns g l = length g.N.DeskName.sizes - l.desk.state.asked
