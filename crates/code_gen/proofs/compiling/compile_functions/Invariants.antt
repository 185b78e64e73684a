use Rattle.std.proofs.Common.{◌≡◌, ◌≤◌, ◌++◌, map, length}
use Rattle.std.specs.List.{AllByRecursion}
use Rattle.camelot_tree.specs.Tree.{function_of}
use Rattle.camelot_typing.specs.Typed.{kinds_of, signatures_of}
use Rattle.camelot_typing.specs.TypedPrograms.{typing_of}
use Rattle.grail_code.specs.Code.{func_of}
use Rattle.normal_form.specs.Answers.{first_fault, program_fault}
use Rattle.normal_form.specs.Normal.{normal_functions}
use Rattle.normal_form.specs.Coded.{coded}
use Rattle.code_gen.specs.Generated.{live_params, compiled}
use Rattle.code_gen.proofs.Singly.{AreWithin}
use Rattle.code_gen.proofs.compiling.compile_functions.Given as goal

abbrev pub invariant-funs : goal.invariant-funs
invariant-funs l =
    let t = typing_of l.known.typed.now in
    let fs = map function_of l.decl-iterator.a.rest.now in
    let ks = map kinds_of l.decl-iterator.b.rest.now in
    record {
      forms : map func_of l.funcs.items ++ map (coded live_params) (normal_functions t.source t.signatures fs (signatures_of fs ks)) ≡ (compiled t).funcs;
      faults : first_fault t.source fs (signatures_of fs ks) ≡ program_fault t;
      few : AllByRecursion (λ f. length f.params ≤ 16) fs;
      within : AreWithin t.source t.signatures fs (signatures_of fs ks);
    }
