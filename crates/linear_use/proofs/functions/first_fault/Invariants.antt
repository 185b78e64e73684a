use Rattle.std.proofs.Common.{◌≡◌, map}
use Rattle.camelot_tree.specs.Tree.{function_of}
use Rattle.camelot_typing.specs.Typed.{kinds_of, functions_kinds, signatures_of}
use Rattle.linear_use.specs.Flow.{functions_faults}
use Rattle.linear_use.specs.Walk.{globals_in, loans_in}
use Rattle.linear_use.specs.Answers.{first}
use Rattle.linear_use.proofs.functions.first_fault.Given as goal

abbrev pub invariant-funs : goal.invariant-funs
invariant-funs l =
    let g = globals_in l.typed in
    let fs = map function_of l.decl-iterator.a.rest.now in
    let ks = map kinds_of l.decl-iterator.b.rest.now in
    record {
      first : first (functions_faults (loans_in l.typed) g fs (signatures_of fs ks)) ≡ first (functions_faults (loans_in l.typed) g (map function_of l.typed.program.funs.items) g.heads);
      kinds : ks ≡ functions_kinds g fs (signatures_of fs ks);
    }
