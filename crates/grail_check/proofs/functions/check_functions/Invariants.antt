use Rattle.std.proofs.Common.{◌≡◌, [], drop, map}
use Rattle.grail_code.specs.Code.{func_of, code_of}
use Rattle.grail_check.specs.Faulting.{functions_fault}
use Rattle.grail_check.proofs.functions.check_functions.Given as goal

abbrev pub invariant-walk : goal.invariant-walk
invariant-walk l = record {
  number : l.number ≡ l.func-index;
  fault : functions_fault (code_of l.code) l.number (map (λ word. word.now) l.names.keys) (map func_of (drop l.func-index l.code.funcs.items)) ≡ functions_fault (code_of l.code) 0 [] (map func_of l.code.funcs.items);
}
