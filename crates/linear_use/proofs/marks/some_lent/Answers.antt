use Rattle.std.proofs.Common.{◌≡◌, length, sym, ap, ◌∙◌, ◌⊎◌, inl, inr, ⊎_elim}
use Rattle.linear_use.specs.Uses.{some_lent}
use Rattle.linear_use.proofs.Tables.{lent_over}
use Rattle.linear_use.proofs.marks.some_lent.Goals as goal

pub returns : goal.returns
returns c =
    let xs = c.params.param-iterator.a.rest.now in
    let ks = c.params.param-iterator.b.rest.now in
    let over : (length xs ≡ 0) ⊎ (length ks ≡ 0) = ⊎_elim (λ q. inl q.1.0) (λ q. inr q.1.0) c.in-None.ensures.steps in
    sym (ap some_lent (lent_over c.args.types.now xs ks over)) ∙ c.params.invariant
