use Rattle.std.proofs.Common.{◌≡◌, length, map}
use Rattle.certificate.specs.Words.{make_of}
use Rattle.certificate_fit.specs.Shapes.{makes_from}
use Rattle.certificate_fit.proofs.lines.makes_from.Given as goal

abbrev pub invariant-makes : goal.invariant-makes
invariant-makes l = makes_from l.number (map make_of l.rest) ≡ makes_from l.number (map make_of l.makes)

abbrev pub decreases-makes : goal.decreases-makes
decreases-makes l = length l.rest
