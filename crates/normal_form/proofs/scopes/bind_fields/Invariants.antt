use Rattle.std.proofs.Common.{◌≡◌, ◌+◌, drop}
use Rattle.normal_form.specs.Normal.{with_fields}
use Rattle.normal_form.proofs.scopes.bind_fields.Given as goal

abbrev pub invariant-fields : goal.invariant-fields
invariant-fields l = record {
  scope : with_fields (drop l.field-index l.fields) l.number l.scope ≡ with_fields l.fields l.next l.initial.scope;
  number : l.number ≡ l.next + l.field-index;
}
