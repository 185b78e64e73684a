use Rattle.std.proofs.Common.{◌≡◌, length, sym, ◌∙◌, ◌⊎◌, inl, inr, ⊎_elim}
use Rattle.normal_form.proofs.NamedKinds.{fields_ended}
use Rattle.normal_form.proofs.known_kinds.bind_field_kinds.Goals as goal

pub returns : goal.returns
returns c =
    let fs = c.fields.field-iterator.a.rest.now in
    let ks = c.fields.field-iterator.b.rest.now in
    let over : (length fs ≡ 0) ⊎ (length ks ≡ 0) = ⊎_elim (λ q. inl q.1.0) (λ q. inr q.1.0) c.in-None.ensures.steps in
    sym (fields_ended fs ks c.fields.scope over) ∙ c.fields.invariant
