use Rattle.std.proofs.Common.{◌↔◌, length}
use Rattle.certificate.specs.Certificates.{VectorIsWithin}
use Rattle.lp_solution.proofs.limits.vector_is_within.Given as goal

abbrev pub invariant-pairs : goal.invariant-pairs
invariant-pairs l = VectorIsWithin l.rest ↔ VectorIsWithin l.vector

abbrev pub decreases-pairs : goal.decreases-pairs
decreases-pairs l = length l.rest
