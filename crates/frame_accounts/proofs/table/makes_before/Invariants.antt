use Rattle.std.proofs.Common.{◌-◌, ◌≤◌, length, map}
use Rattle.certificate.specs.Words.{make_of}
use Rattle.frame_accounts.specs.Tables.{makes_before}
use Rattle.frame_accounts.proofs.table.makes_before.Given as goal

abbrev pub invariant-makes : goal.invariant-makes
invariant-makes l = l.count ≤ makes_before (map make_of l.makes) l.block

abbrev pub decreases-makes : goal.decreases-makes
decreases-makes l = length l.makes - l.count
