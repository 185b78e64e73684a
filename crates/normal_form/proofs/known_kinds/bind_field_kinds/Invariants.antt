use Rattle.std.proofs.Common.{◌≡◌}
use Rattle.camelot_typing.specs.Kinds.{bind_fields}
use Rattle.camelot_typing.specs.Typing.{known_kind}
use Rattle.normal_form.proofs.known_kinds.bind_field_kinds.Given as goal

abbrev pub invariant-fields : goal.invariant-fields
invariant-fields l = bind_fields known_kind l.field-iterator.a.rest.now l.field-iterator.b.rest.now l.scope ≡ bind_fields known_kind l.fields l.kinds l.initial.scope
