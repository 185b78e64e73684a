use Rattle.std.proofs.Common.{◌≡◌, ◌++◌, length, map}
use Rattle.grail_code.specs.Code.{func_of}
use Rattle.certificate.specs.Words.{var_of}
use Rattle.lp_solution.specs.Taking.{lines_from, behind_lines}
use Rattle.lp_solution.proofs.lines.lines.Given as goal

abbrev pub invariant-locals : goal.invariant-locals
invariant-locals l = record {
  value : map var_of l.lines.items ++ lines_from l.typed.types.now (func_of l.func) l.rest l.values ≡ lines_from l.typed.types.now (func_of l.func) l.fn.locals l.fn.values;
  left : behind_lines l.typed.types.now (func_of l.func) l.rest l.values ≡ behind_lines l.typed.types.now (func_of l.func) l.fn.locals l.fn.values;
}

abbrev pub decreases-locals : goal.decreases-locals
decreases-locals l = length l.rest
