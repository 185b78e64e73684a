use Rattle.std.proofs.Common.{◌≡◌, length, map}
use Rattle.certificate.specs.Words.{make_of}
use Rattle.frame_accounts.specs.Walk.{makes_from}
use Rattle.frame_accounts.proofs.lines.makes_from.Given as goal

abbrev pub invariant-makes : goal.invariant-makes
invariant-makes l = makes_from l.block l.place (map make_of l.rest) ≡ makes_from l.block l.place (map make_of l.makes)

abbrev pub decreases-makes : goal.decreases-makes
decreases-makes l = length l.rest
