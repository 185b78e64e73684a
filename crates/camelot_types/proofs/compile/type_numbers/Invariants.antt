use Rattle.std.proofs.Common.{◌≡◌, ◌≤◌, ◌+◌, ◌++◌, drop, map, length}
use Rattle.camelot_values.specs.Kinds as values
use Rattle.camelot_types.specs.Facts.{numbers_from_type}
use Rattle.camelot_types.proofs.compile.type_numbers.Given as goal

abbrev pub invariant-types : goal.invariant-types
invariant-types l = record {
  numbers : map (λ v. v.items) l.numbers.items
      ++ numbers_from_type l.next (map values.data_type_of (drop l.def-index l.defs)) ≡ numbers_from_type 0 (map values.data_type_of l.defs);
  room : l.next + length (values.constructors (map values.data_type_of (drop l.def-index l.defs))) ≤ 4096;
}
