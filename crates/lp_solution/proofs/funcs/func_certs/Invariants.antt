use Rattle.std.proofs.Common.{◌≡◌, ◌++◌, length, map}
use Rattle.grail_code.specs.Code.{func_of}
use Rattle.certificate.specs.Words as words
use Rattle.lp_solution.specs.Taking.{funcs_from}
use Rattle.lp_solution.proofs.funcs.func_certs.Given as goal

abbrev pub invariant-funcs : goal.invariant-funcs
invariant-funcs l = map words.func_of l.certs.items ++ funcs_from l.typed.types.now (map func_of l.rest) l.values ≡ funcs_from l.typed.types.now (map func_of l.fn.funcs) l.fn.values

abbrev pub decreases-funcs : goal.decreases-funcs
decreases-funcs l = length l.rest
