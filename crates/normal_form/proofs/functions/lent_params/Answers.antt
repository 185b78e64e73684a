use Rattle.std.proofs.Common.{◌≡◌, length, ◌⊎◌, inl, inr, ⊎_elim}
use Rattle.linear_use.specs.Uses.{lent_params}
use Rattle.normal_form.proofs.FunctionLaws.{marks_over}
use Rattle.normal_form.proofs.functions.lent_params.Goals as goal

pub returns : goal.returns
returns c =
    let xs = c.params.param-iterator.a.rest.now in
    let ks = c.params.param-iterator.b.rest.now in
    let over : (length xs ≡ 0) ⊎ (length ks ≡ 0) = ⊎_elim (λ q. inl q.1.0) (λ q. inr q.1.0) c.in-None.ensures.steps in
    marks_over c.args.types.now xs ks c.params.marks.items (lent_params c.args.types.now c.args.params.now c.args.kinds.now) over c.params.invariant
