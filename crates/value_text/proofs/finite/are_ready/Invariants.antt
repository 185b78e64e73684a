use Rattle.std.proofs.Common.{◌≡◌, drop, map}
use Rattle.camelot_values.specs.Kinds.{data_type_of}
use Rattle.value_text.specs.Finite.{all_ready}
use Rattle.value_text.proofs.finite.are_ready.Given as goal

abbrev pub invariant-types : goal.invariant-types
invariant-types l = all_ready l.marks (map data_type_of (drop l.def-index l.types)) ≡ all_ready l.marks (map data_type_of l.types)
