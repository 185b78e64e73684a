use Rattle.std.proofs.Common.{◌≡◌, length, map}
use Rattle.certificate.specs.Words.{block_of}
use Rattle.certificate_fit.specs.Shapes.{lines_from}
use Rattle.certificate_fit.proofs.lines.lines_from.Given as goal

abbrev pub invariant-lines : goal.invariant-lines
invariant-lines l = lines_from l.number (map block_of l.rest) ≡ lines_from l.number (map block_of l.lines)

abbrev pub decreases-lines : goal.decreases-lines
decreases-lines l = length l.rest
