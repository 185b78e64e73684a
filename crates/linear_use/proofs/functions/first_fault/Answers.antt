use Rattle.std.proofs.Common.{◌≡◌, length, map, sym, ap, ◌∙◌, subst, ◌⊎◌, inl, inr, ⊎_elim}
use Rattle.camelot_tree.specs.Tree.{function_of}
use Rattle.camelot_typing.specs.Typed.{kinds_of, typing_globals}
use Rattle.camelot_typing.specs.TypedPrograms.{typing_of}
use Rattle.linear_use.specs.Flow.{functions_faults}
use Rattle.linear_use.specs.Walk.{StopsAt, globals_in, loans_in}
use Rattle.linear_use.specs.Answers.{first}
use Rattle.linear_use.proofs.FunctionLaws.{funs_step, funs_stop, kinds_step, functions_over, finds_err, globals_is, loans_is}
use Rattle.linear_use.proofs.functions.first_fault.Goals as goal

pub funs-preserved : goal.funs-preserved
funs-preserved c =
    let g = globals_in c.args.typed.now in
    let a = c.funs.decl-iterator.a.rest.now in
    let b = c.funs.decl-iterator.b.rest.now in
    let s = c.in-Some.ensures.steps in
    record {
      first = funs_step function_of kinds_of (loans_in c.args.typed.now) g a c.next.new.self.a.rest.now b c.next.new.self.b.rest.now c.in-Some.decl.now c.in-Some.kinds.now _ s.0 s.1 c.in_ok-walk_function.ensures c.funs.invariant.first;
      kinds = kinds_step function_of kinds_of g a c.next.new.self.a.rest.now b c.next.new.self.b.rest.now c.in-Some.decl.now c.in-Some.kinds.now s.0 s.1 c.funs.invariant.kinds;
    }

pub returns-in_err-walk_function : goal.returns-in_err-walk_function
returns-in_err-walk_function c =
    let t = c.args.typed.now in
    let g = globals_in t in
    let a = c.funs.decl-iterator.a.rest.now in
    let b = c.funs.decl-iterator.b.rest.now in
    let s = c.in-Some.ensures.steps in
    let stop = c.in_err-walk_function.field-0.0 in
    finds_err c.from_residual-in_err-walk_function.result stop _ c.from_residual-in_err-walk_function.ensures.1
    (subst (λ y. StopsAt (first (functions_faults y (typing_globals (typing_of t)) (map function_of t.program.funs.items) g.heads)) stop) (loans_is t)
    (subst (λ x. StopsAt (first (functions_faults (loans_in t) x (map function_of t.program.funs.items) g.heads)) stop) (globals_is t)
    (funs_stop function_of kinds_of (loans_in t) g a c.next.new.self.a.rest.now b c.next.new.self.b.rest.now c.in-Some.decl.now c.in-Some.kinds.now _ stop s.0 s.1 c.in_err-walk_function.ensures c.funs.invariant.first)))

pub returns : goal.returns
returns c =
    let t = c.args.typed.now in
    let g = globals_in t in
    let fs = map function_of c.funs.decl-iterator.a.rest.now in
    let ks = map kinds_of c.funs.decl-iterator.b.rest.now in
    let over : (length c.funs.decl-iterator.a.rest.now ≡ 0) ⊎ (length c.funs.decl-iterator.b.rest.now ≡ 0) = ⊎_elim (λ q. inl q.1.0) (λ q. inr q.1.0) c.in-None.ensures.steps in
    ap (λ y. first (functions_faults y (typing_globals (typing_of t)) (map function_of t.program.funs.items) g.heads)) (sym (loans_is t))
    ∙ ap (λ x. first (functions_faults (loans_in t) x (map function_of t.program.funs.items) g.heads)) (sym (globals_is t)) ∙ sym c.funs.invariant.first
    ∙ ap first (functions_over (loans_in t) g function_of kinds_of c.funs.decl-iterator.a.rest.now c.funs.decl-iterator.b.rest.now over)
