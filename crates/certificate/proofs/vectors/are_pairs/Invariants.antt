use Rattle.std.proofs.Common.{◌≡◌, length}
use Rattle.certificate.specs.Reading.{is_there, vector_from}
use Rattle.text_lines.specs.Cuts.{further}
use Rattle.certificate.proofs.vectors.are_pairs.Given as goal

abbrev pub invariant-pairs : goal.invariant-pairs
invariant-pairs l = is_there (vector_from l.last (further l.left)) ≡ is_there (vector_from l.fn.prev (further l.fn.rest))

abbrev pub decreases-pairs : goal.decreases-pairs
decreases-pairs l = length l.left
