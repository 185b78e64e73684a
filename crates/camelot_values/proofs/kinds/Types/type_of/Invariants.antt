use Rattle.std.proofs.Common.{◌≡◌, map, drop}
use Rattle.camelot_values.specs.Kinds.{data_type_of, type_from, type_of}
use Rattle.camelot_values.proofs.kinds.Types.type_of.Given as goal

abbrev pub invariant-types : goal.invariant-types
invariant-types l = record {
  left : type_from l.number (map data_type_of (drop l.def-index l.def-items)) l.place ≡ type_of l.self l.con;
  counted : l.number ≡ l.def-index;
}
