use Rattle.std.proofs.Common.{◌↔◌, length, map}
use Rattle.std.specs.List.{AllByRecursion}
use Rattle.certificate.specs.Certificates.{FuncIsWithin}
use Rattle.certificate.specs.Words.{func_of}
use Rattle.lp_solution.proofs.limits.funcs_are_within.Given as goal

abbrev pub invariant-funcs : goal.invariant-funcs
invariant-funcs l = AllByRecursion FuncIsWithin (map func_of l.rest) ↔ AllByRecursion FuncIsWithin (map func_of l.funcs)

abbrev pub decreases-funcs : goal.decreases-funcs
decreases-funcs l = length l.rest
