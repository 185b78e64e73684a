use Rattle.std.specs.Prelude.{◌&&◌}
use Rattle.camelot_values.specs.Heap.{is_heap}
use Rattle.std.proofs.Common.{◌≡◌, length, sym, ◌∙◌, arith, ◌⊎◌, inl, inr, ⊎_elim}
use Rattle.linear_use.proofs.Fields.{ended_scope, ended_count}
use Rattle.linear_use.proofs.parts.bind_fields.Goals as goal

pub returns-clause-scope : goal.returns-clause-scope
returns-clause-scope c =
    let s = c.fields.state in
    let fs = c.fields.field-iterator.a.rest.now in
    let ks = c.fields.field-iterator.b.rest.now in
    let over : (length fs ≡ 0) ⊎ (length ks ≡ 0) = ⊎_elim (λ q. inl q.1.0) (λ q. inr q.1.0) c.in-None.ensures.steps in
    sym (ended_scope (λ k. c.args.lends && is_heap c.args.types.now k) s.next fs ks s.scope over) ∙ c.fields.invariant.scope

pub returns-clause-next : goal.returns-clause-next
returns-clause-next c =
    let fs = c.fields.field-iterator.a.rest.now in
    let ks = c.fields.field-iterator.b.rest.now in
    let over : (length fs ≡ 0) ⊎ (length ks ≡ 0) = ⊎_elim (λ q. inl q.1.0) (λ q. inr q.1.0) c.in-None.ensures.steps in
    let none = ended_count fs ks over in
    let all = c.fields.invariant.next in
    omega (arith, none, all)
