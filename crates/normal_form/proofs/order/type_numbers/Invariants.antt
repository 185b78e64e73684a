use Rattle.std.proofs.Common.{◌≡◌, ◌*◌, ◌≤◌, drop, map}
use Rattle.camelot_values.specs.Kinds.{data_type_of}
use Rattle.camelot_typing.specs.Kinds.{numbers_from, numbers_of}
use Rattle.normal_form.proofs.order.type_numbers.Given as goal

abbrev pub invariant-types : goal.invariant-types
invariant-types l = record {
  left : numbers_from l.first (map data_type_of (drop l.def-index l.def-items)) l.left ≡ numbers_of (map data_type_of l.def-items) l.number;
  few : l.first ≤ 64 * l.def-index;
}
