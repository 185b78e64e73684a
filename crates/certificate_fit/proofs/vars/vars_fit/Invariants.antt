use Rattle.std.proofs.Common.{◌↔◌, length, map}
use Rattle.std.specs.List.{AllByRecursion}
use Rattle.grail_code.specs.Code.{func_of}
use Rattle.certificate.specs.Words.{var_of}
use Rattle.licence.specs.Fitting.{VarFits}
use Rattle.certificate_fit.proofs.vars.vars_fit.Given as goal

abbrev pub invariant-lines : goal.invariant-lines
invariant-lines l = AllByRecursion (VarFits l.types (func_of l.func) l.params) (map var_of l.rest) ↔ AllByRecursion (VarFits l.types (func_of l.func) l.params) (map var_of l.lines)

abbrev pub decreases-lines : goal.decreases-lines
decreases-lines l = length l.rest
