use Rattle.std.proofs.Common.{◌≡◌, length, map, ◌⊎◌, inl, inr, ⊎_elim}
use Rattle.camelot_tree.specs.Tree.{function_of}
use Rattle.camelot_typing.specs.Typed.{kinds_of}
use Rattle.camelot_typing.specs.TypedPrograms.{typing_of}
use Rattle.grail_code.specs.Code.{func_of}
use Rattle.normal_form.specs.Answers.{program_fault}
use Rattle.code_gen.specs.Generated.{compiled}
use Rattle.code_gen.proofs.Singly.{codes_over, faults_over}
use Rattle.code_gen.proofs.compiling.compile_functions.Goals as goal

pub returns-clause-functions : goal.returns-clause-functions
returns-clause-functions c =
    let t = typing_of c.args.known.now.typed.now in
    let a = c.funs.decl-iterator.a.rest.now in
    let b = c.funs.decl-iterator.b.rest.now in
    let over : (length a ≡ 0) ⊎ (length b ≡ 0) = ⊎_elim (λ q. inl q.1.0) (λ q. inr q.1.0) c.in-None.ensures.steps in
    codes_over function_of kinds_of t.source t.signatures a b (map func_of c.funs.funcs.items) (compiled t).funcs over c.funs.invariant.forms

pub returns-clause-finds : goal.returns-clause-finds
returns-clause-finds c =
    let t = typing_of c.args.known.now.typed.now in
    let a = c.funs.decl-iterator.a.rest.now in
    let b = c.funs.decl-iterator.b.rest.now in
    let over : (length a ≡ 0) ⊎ (length b ≡ 0) = ⊎_elim (λ q. inl q.1.0) (λ q. inr q.1.0) c.in-None.ensures.steps in
    faults_over function_of kinds_of t.source a b (program_fault t) over c.funs.invariant.faults
