use Rattle.std.proofs.Common.{◌≤◌, [], ◌∷◌, ◌++◌, length, true, is_ok, refl, sym, ap, ◌∙◌, arith}
use Rattle.std.specs.Prelude.{not, if◌then◌else◌}
use Rattle.job_script.specs.Known.{number_of}
use Rattle.job_script.proofs.Keys.{of_slice, past_pushed, key_pushed, new_by_key}
use Rattle.job_script.proofs.known.KnownNames.add.Goals as goal

pub invariant_of-self-then-is_past : goal.invariant_of-self-then-is_past
invariant_of-self-then-is_past c =
    past_pushed c.self.inside.keys.keys c.self.inside.words.items _ c.args.name _ _ _ _ _ c.self.invariant.0 c.self.invariant.1 c.in_ok-push.ensures.items refl
    (c.number_of-number.ensures ∙ ap number_of c.back.ensures) (sym c.is_past.ensures ∙ c.if-is_past.true)

pub returns-then-not-added-clause-new : goal.returns-then-not-added-clause-new
returns-then-not-added-clause-new c =
    let all : length c.self.inside.words.items ≤ c.file_names-self-inside.result = omega (arith, c.if-self-len.false, c.len.ensures) in
    rw (← c.self.view_is) (sym c.if-not-added.true
    ∙ new_by_key _ c.self.inside.words.items c.args.name.now _ _ _ (of_slice _ _ _ _ c.deref.ensures.value c.file_names-self-inside.ensures.filed) all (c.number_of-number.ensures ∙ ap number_of c.back.ensures) c.in-Ok.ensures.added)

pub returns-else-not-added-clause-new : goal.returns-else-not-added-clause-new
returns-else-not-added-clause-new c =
    let all : length c.self.inside.words.items ≤ c.file_names-self-inside.result = omega (arith, c.if-self-len.false, c.len.ensures) in
    rw (← c.self.view_is) (sym c.if-not-added.false
    ∙ new_by_key _ c.self.inside.words.items c.args.name.now _ _ _ (of_slice _ _ _ _ c.deref.ensures.value c.file_names-self-inside.ensures.filed) all (c.number_of-number.ensures ∙ ap number_of c.back.ensures) c.in-Ok.ensures.added)

pub returns-in-Err-clause-absent : goal.returns-in-Err-clause-absent
returns-in-Err-clause-absent c =
    let all : length c.self.inside.words.items ≤ c.file_names-self-inside.result = omega (arith, c.if-self-len.false, c.len.ensures) in
    rw (← c.self.view_is) (sym (new_by_key _ c.self.inside.words.items c.args.name.now _ _ true (of_slice _ _ _ _ c.deref.ensures.value c.file_names-self-inside.ensures.filed) all (c.number_of-number.ensures ∙ ap number_of c.back.ensures)
    (sym (ap not c.in-Err.ensures.absent))))

pub invariant_of-self-in-Ok : goal.invariant_of-self-in-Ok
invariant_of-self-in-Ok c =
    let all : length c.self.inside.words.items ≤ c.file_names-self-inside.result = omega (arith, c.if-self-len.false, c.len.ensures) in
    key_pushed _ c.insert.new.self c.self.inside.words.items _ c.args.name _ _ _ _ _ (of_slice _ _ _ _ c.deref.ensures.value c.file_names-self-inside.ensures.filed) c.self.invariant.1 all
    (c.push-in-Ok.ensures.items ∙ ap (λ r. if is_ok r then c.reserve.new.self.items ++ c.args.name ∷ [] else c.reserve.new.self.items) c.unwrap.ensures ∙ ap (λ l. l ++ c.args.name ∷ []) c.reserve.ensures.items)
    refl (c.number_of-number.ensures ∙ ap number_of c.back.ensures) (sym c.is_past.ensures ∙ c.if-is_past.false) c.in-Ok.ensures.updates
