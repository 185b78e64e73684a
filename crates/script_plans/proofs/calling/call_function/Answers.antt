use Rattle.std.proofs.Common.{◌<◌, ◌≤◌, length, refl, sym, subst}
use Rattle.camelot_values.specs.Value.{parts}
use Rattle.camelot_values.specs.Counts.{size_all}
use Rattle.grail_code.specs.Code.{Code, code_of}
use Rattle.licence.specs.Licensed.{FitsEntry}
use Rattle.script_plans.specs.Turns.{IsBoundOf}
use Rattle.script_plans.proofs.Coming.{read_few, read_entry, args_read}
use Rattle.script_plans.proofs.calling.call_function.Goals as goal

pub needs_of-needs-requires-clause-fits : goal.needs_of-needs-requires-clause-fits
needs_of-needs-requires-clause-fits c =
    subst (FitsEntry c.args.licence.now c.args.number) (sym c.deref.ensures.value)
    (read_entry c.args.licence.now (code_of c.code.result.now) c.args.number c.args.text.now c.in-Ok.args.items c.code.ensures c.requires.there c.in-Ok.ensures)

pub needs_of-needs-requires-clause-few : goal.needs_of-needs-requires-clause-few
needs_of-needs-requires-clause-few c =
    let there = subst (λ (p : Code). c.args.number < length p.funcs) (sym c.code.ensures) c.requires.there in
    subst (λ vs. size_all (parts vs) ≤ 65536) (sym c.deref.ensures.value) (read_few (code_of c.code.result.now) c.args.number c.args.text.now c.in-Ok.args.items there c.in-Ok.ensures)

pub returns-in-Ok : goal.returns-in-Ok
returns-in-Ok c = λ f is. (
  refl,
  refl,
  refl,
  args_read c.args.licence.now (code_of c.code.result.now) c.args.number c.args.text.now c.in-Ok.args.items c.code.ensures c.in-Ok.ensures f is,
  subst (λ vs. IsBoundOf c.args.licence.now c.args.number vs c.needs_of-needs.result) c.deref.ensures.value c.needs_of-needs.ensures,
)
