use Rattle.std.proofs.Common.{◌≡◌, ◌+◌, ◌≤◌, ◌++◌, length, map}
use Rattle.camelot_values.specs.Kinds.{data_type_of}
use Rattle.frame_accounts.specs.Tables.{heaps_from}
use Rattle.frame_accounts.proofs.table.heaps_of.Given as goal

abbrev pub invariant-types : goal.invariant-types
invariant-types l = record {
  left : l.heaps.items ++ heaps_from l.types l.number (map data_type_of l.rest) ≡ heaps_from l.types 0 l.types;
  few : l.number + length l.rest ≤ 64;
}

abbrev pub decreases-types : goal.decreases-types
decreases-types l = length l.rest
