use Rattle.std.proofs.Common.{◌↔◌, length, map}
use Rattle.std.specs.List.{AllByRecursion}
use Rattle.certificate.specs.Certificates.{VarIsWithin}
use Rattle.certificate.specs.Words.{var_of}
use Rattle.lp_solution.proofs.limits.vars_are_within.Given as goal

abbrev pub invariant-vars : goal.invariant-vars
invariant-vars l = AllByRecursion VarIsWithin (map var_of l.rest) ↔ AllByRecursion VarIsWithin (map var_of l.vars)

abbrev pub decreases-vars : goal.decreases-vars
decreases-vars l = length l.rest
