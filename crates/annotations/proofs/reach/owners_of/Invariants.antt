use Rattle.std.proofs.Common.{◌≡◌, ◌+◌, ◌≤◌, ◌++◌, length, map}
use Rattle.camelot_values.specs.Kinds.{data_type_of}
use Rattle.annotations.specs.Tables.{owners_from}
use Rattle.annotations.proofs.reach.owners_of.Given as goal

abbrev pub invariant-types : goal.invariant-types
invariant-types l = record {
  left : l.owners.items ++ owners_from l.number (map data_type_of l.rest) ≡ owners_from 0 l.types;
  few : l.number + length l.rest ≤ 64;
}

abbrev pub decreases-types : goal.decreases-types
decreases-types l = length l.rest
