use Rattle.std.proofs.Common.{◌≡◌, [], length}
use Rattle.certificate.specs.Certificates.{VectorIsWithin}
use Rattle.certificate.specs.Reading.{put_front, vector_from}
use Rattle.text_lines.specs.Cuts.{further}
use Rattle.certificate.proofs.vectors.read_pairs.Given as goal

abbrev pub invariant-pairs : goal.invariant-pairs
invariant-pairs l = record {
  whole : vector_from [] (further l.fn.rest) ≡ put_front l.pairs.items (vector_from l.last (further l.left));
  within : VectorIsWithin l.pairs.items;
}

abbrev pub decreases-pairs : goal.decreases-pairs
decreases-pairs l = length l.left
