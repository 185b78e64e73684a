use Rattle.std.proofs.Common.{◌≡◌, ◌++◌, ◌*◌, ◌≤◌, map, drop}
use Rattle.camelot_values.specs.Kinds.{data_type_of}
use Rattle.camelot_values.specs.Search.{passes, numbers_where}
use Rattle.camelot_values.proofs.kinds.Types.passing.Given as goal

abbrev pub invariant-loop-number : goal.invariant-loop-number
invariant-loop-number l = record {
  all : l.found.items ++ numbers_where (passes l.self l.first) l.number l.next (map data_type_of (drop l.number l.def-items)) ≡ numbers_where (passes l.self l.first) 0 0 l.self;
  few : l.next ≤ 64 * l.number;
}
