use Rattle.std.proofs.Common.{◌≡◌, ◌++◌, drop, map}
use Rattle.camelot_values.specs.Kinds.{data_type_of}
use Rattle.camelot_types.specs.Facts.{fact_of, facts_from}
use Rattle.camelot_types.proofs.facts.con_facts.Given as goal

abbrev pub invariant-types : goal.invariant-types
invariant-types l = record {
  facts : map fact_of l.facts.items ++ facts_from l.owner (map data_type_of (drop l.def-index l.defs)) ≡ facts_from 0 (map data_type_of l.defs);
  owner : l.owner ≡ l.def-index;
}
