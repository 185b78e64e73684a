use Rattle.std.proofs.Common.{◌≡◌, ◌++◌, drop, map}
use Rattle.camelot_values.specs.Kinds.{constructor_of}
use Rattle.camelot_types.specs.Facts.{fact_at, fact_of}
use Rattle.camelot_types.proofs.facts.add_facts.Given as goal

abbrev pub invariant-cons : goal.invariant-cons
invariant-cons l = map fact_of l.facts.items ++ map (fact_at l.owner) (map constructor_of (drop l.con-index l.cons)) ≡ map fact_of l.initial.facts.items ++ map (fact_at l.owner) (map constructor_of l.cons)
