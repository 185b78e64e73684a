use Rattle.std.proofs.Common.{◌≡◌, length, map, ◌⊎◌, inl, inr, ⊎_elim}
use Rattle.camelot_tree.specs.Tree.{function_of}
use Rattle.camelot_typing.specs.Typed.{kinds_of}
use Rattle.camelot_typing.specs.TypedPrograms.{typing_of}
use Rattle.normal_form.specs.Answers.{program_fault}
use Rattle.normal_form.specs.Normal.{normal_functions}
use Rattle.normal_form.specs.Programs.{normal_function_of}
use Rattle.normal_form.specs.Tables.{source_in, signatures_in}
use Rattle.normal_form.proofs.FunctionLaws.{forms_over, faults_over}
use Rattle.normal_form.proofs.normalising.all_functions.Goals as goal

pub returns-clause-functions : goal.returns-clause-functions
returns-clause-functions c =
    let p = source_in c.args.known.now.typed.now in
    let sigs = signatures_in c.args.known.now.typed.now in
    let a = c.funs.decl-iterator.a.rest.now in
    let b = c.funs.decl-iterator.b.rest.now in
    let over : (length a ≡ 0) ⊎ (length b ≡ 0) = ⊎_elim (λ q. inl q.1.0) (λ q. inr q.1.0) c.in-None.ensures.steps in
    forms_over function_of kinds_of p sigs a b (map normal_function_of c.funs.all.items) (normal_functions p sigs p.funs sigs) over c.funs.invariant.forms

pub returns-clause-finds : goal.returns-clause-finds
returns-clause-finds c =
    let a = c.funs.decl-iterator.a.rest.now in
    let b = c.funs.decl-iterator.b.rest.now in
    let over : (length a ≡ 0) ⊎ (length b ≡ 0) = ⊎_elim (λ q. inl q.1.0) (λ q. inr q.1.0) c.in-None.ensures.steps in
    faults_over function_of kinds_of (source_in c.args.known.now.typed.now) a b (program_fault (typing_of c.args.known.now.typed.now)) over c.funs.invariant.faults
