use Rattle.std.proofs.Common.{◌≡◌, length}
use Rattle.lease_desk.specs.Journal.{is_none_out}
use Rattle.journal_replay.proofs.moves.none_out.Given as goal

abbrev pub invariant-leases : goal.invariant-leases
invariant-leases l = is_none_out l.rest ≡ is_none_out l.leases

abbrev pub decreases-leases : goal.decreases-leases
decreases-leases l = length l.rest
