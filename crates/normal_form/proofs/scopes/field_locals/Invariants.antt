use Rattle.std.proofs.Common.{◌≡◌, ◌+◌, ◌++◌, drop}
use Rattle.camelot_typing.specs.Kinds.{numbered}
use Rattle.normal_form.proofs.scopes.field_locals.Given as goal

abbrev pub invariant-fields : goal.invariant-fields
invariant-fields l = record {
  done : l.locals.items ++ numbered l.number (drop l._field-index l.fields) ≡ numbered l.next l.fields;
  number : l.number ≡ l.next + l._field-index;
}
