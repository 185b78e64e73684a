use Rattle.std.proofs.Common.{◌≡◌, ◌++◌, map}
use Rattle.camelot_tree.specs.Tree.{function_of}
use Rattle.camelot_typing.specs.Typed.{kinds_of, signatures_of}
use Rattle.camelot_typing.specs.TypedPrograms.{typing_of}
use Rattle.normal_form.specs.Answers.{first_fault, program_fault}
use Rattle.normal_form.specs.Normal.{normal_functions}
use Rattle.normal_form.specs.Programs.{normal_function_of}
use Rattle.normal_form.specs.Tables.{source_in, signatures_in}
use Rattle.normal_form.proofs.FunctionLaws.{AreFew}
use Rattle.normal_form.proofs.normalising.all_functions.Given as goal

abbrev pub invariant-funs : goal.invariant-funs
invariant-funs l =
    let p = source_in l.known.typed.now in
    let sigs = signatures_in l.known.typed.now in
    let fs = map function_of l.decl-iterator.a.rest.now in
    let ks = map kinds_of l.decl-iterator.b.rest.now in
    record {
      forms : map normal_function_of l.all.items ++ normal_functions p sigs fs (signatures_of fs ks) ≡ normal_functions p sigs p.funs sigs;
      faults : first_fault p fs (signatures_of fs ks) ≡ program_fault (typing_of l.known.typed.now);
      few : AreFew fs;
    }
