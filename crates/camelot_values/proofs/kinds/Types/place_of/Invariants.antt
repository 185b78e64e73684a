use Rattle.std.proofs.Common.{◌≡◌, map, drop}
use Rattle.camelot_values.specs.Kinds.{data_type_of, place_of}
use Rattle.camelot_values.proofs.kinds.Types.place_of.Given as goal

abbrev pub invariant-types : goal.invariant-types
invariant-types l = place_of (map data_type_of (drop l.def-index l.def-items)) l.place ≡ place_of l.self l.con
