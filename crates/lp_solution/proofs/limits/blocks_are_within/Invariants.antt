use Rattle.std.proofs.Common.{◌↔◌, length, map}
use Rattle.std.specs.List.{AllByRecursion}
use Rattle.certificate.specs.Certificates.{BlockIsWithin}
use Rattle.certificate.specs.Words.{block_of}
use Rattle.lp_solution.proofs.limits.blocks_are_within.Given as goal

abbrev pub invariant-blocks-2 : goal.invariant-blocks-2
invariant-blocks-2 l = AllByRecursion BlockIsWithin (map block_of l.rest) ↔ AllByRecursion BlockIsWithin (map block_of l.blocks)

abbrev pub decreases-blocks-2 : goal.decreases-blocks-2
decreases-blocks-2 l = length l.rest
