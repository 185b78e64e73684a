use Rattle.std.proofs.Common.{◌≡◌, ◌+◌}
use Rattle.std.specs.Prelude.{◌&&◌}
use Rattle.camelot_values.specs.Heap.{is_heap}
use Rattle.linear_use.specs.Flow.{number_fields, fields_count}
use Rattle.linear_use.proofs.parts.bind_fields.Given as goal

abbrev pub invariant-fields : goal.invariant-fields
invariant-fields l = record {
  scope : number_fields (λ k. l.lends && is_heap l.types k) l.state.next l.field-iterator.a.rest.now l.field-iterator.b.rest.now l.state.scope ≡ number_fields (λ k. l.lends && is_heap l.types k) l.initial.state.next l.fields l.kinds l.initial.state.scope;
  next : l.state.next + fields_count l.field-iterator.a.rest.now l.field-iterator.b.rest.now ≡ l.initial.state.next + fields_count l.fields l.kinds;
  spent : l.state.spent ≡ l.initial.state.spent;
  position : l.state.position ≡ l.initial.state.position;
  fault : l.state.fault ≡ l.initial.state.fault;
}
