use Rattle.std.proofs.Common.{◌↔◌, length, map}
use Rattle.std.specs.List.{AllByRecursion}
use Rattle.certificate.specs.Certificates.{MakeIsWithin}
use Rattle.certificate.specs.Words.{make_of}
use Rattle.lp_solution.proofs.limits.makes_are_within.Given as goal

abbrev pub invariant-makes : goal.invariant-makes
invariant-makes l = AllByRecursion MakeIsWithin (map make_of l.rest) ↔ AllByRecursion MakeIsWithin (map make_of l.makes)

abbrev pub decreases-makes : goal.decreases-makes
decreases-makes l = length l.rest
