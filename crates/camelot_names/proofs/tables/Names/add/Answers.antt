use Rattle.std.proofs.Common.{rules, ◌≡◌, refl, sym, ap, true, false, None, Some}
use Rattle.std.specs.Prelude.{is_some}
use Rattle.camelot_names.specs.Kept.{at_name}
use Rattle.camelot_names.proofs.NameLaws.{not_new, is_new, places_pushed, places_back}
use Rattle.camelot_names.proofs.tables.Names.add.Goals as goal

pub returns-then-contains_key-clause-new : goal.returns-then-contains_key-clause-new
returns-then-contains_key-clause-new c =
    rw (← c.self.view_is) (not_new c.contains_key.result c.self.inside.places _ c.args.name.now c.self.invariant c.contains_key.ensures c.if-contains_key.true)

pub returns-then-is_err-clause-absent : goal.returns-then-is_err-clause-absent
returns-then-is_err-clause-absent c =
    rw (← c.self.view_is) (sym (is_new c.contains_key.result c.self.inside.places _ c.args.name.now c.self.invariant c.contains_key.ensures c.if-contains_key.false))

pub invariant_of-self-in-Ok-None : goal.invariant_of-self-in-Ok-None
invariant_of-self-in-Ok-None c =
    let none : None ≡ at_name c.self.inside.places c.args.name.now = rw c.in-Ok-None.field-0-is at c.in-Ok-None.ensures.old in
    places_pushed false c.self.inside.places c.insert.new.self _ _ _ c.args.name _ _ _ c.self.invariant (ap is_some none) refl (search rules) c.reserve.ensures.items c.push.ensures.items c.unwrap.ensures c.in-Ok-None.ensures.updates

pub invariant_of-self-in-Ok-Some : goal.invariant_of-self-in-Ok-Some
invariant_of-self-in-Ok-Some c =
    let some : Some c.in-Ok-Some.place ≡ at_name c.self.inside.places c.args.name.now = rw c.in-Ok-Some.field-0-is at c.in-Ok-Some.ensures.old in
    places_back c.self.inside.places c.insert.new.self c.insert-number.new.self _ _ c.args.name _ c.in-Ok-Some.place c.self.invariant c.reserve.ensures.items (sym some) c.in-Ok-Some.ensures.updates (search rules)

pub returns-in-Ok-None-clause-new : goal.returns-in-Ok-None-clause-new
returns-in-Ok-None-clause-new c =
    let none : None ≡ at_name c.self.inside.places c.args.name.now = rw c.in-Ok-None.field-0-is at c.in-Ok-None.ensures.old in
    rw (← c.self.view_is) (is_new false c.self.inside.places _ c.args.name.now c.self.invariant (ap is_some none) refl)

pub returns-in-Ok-Some-clause-new : goal.returns-in-Ok-Some-clause-new
returns-in-Ok-Some-clause-new c =
    let some : Some c.in-Ok-Some.place ≡ at_name c.self.inside.places c.args.name.now = rw c.in-Ok-Some.field-0-is at c.in-Ok-Some.ensures.old in
    rw (← c.self.view_is) (not_new true c.self.inside.places _ c.args.name.now c.self.invariant (ap is_some some) refl)

pub returns-in-Err-clause-absent : goal.returns-in-Err-clause-absent
returns-in-Err-clause-absent c =
    rw (← c.self.view_is) (sym (is_new false c.self.inside.places _ c.args.name.now c.self.invariant (sym (ap is_some c.in-Err.ensures.absent)) refl))
