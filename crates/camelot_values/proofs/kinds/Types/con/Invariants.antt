use Rattle.std.proofs.Common.{◌≡◌, map, drop}
use Rattle.camelot_values.specs.Kinds.{data_type_of, constructor}
use Rattle.camelot_values.proofs.kinds.Types.con.Given as goal

abbrev pub invariant-types : goal.invariant-types
invariant-types l = constructor (map data_type_of (drop l.def-index l.def-items)) l.place ≡ constructor l.self l.con
