use Rattle.std.proofs.Common.{drop}
use Rattle.dual_simplex.specs.Systems.{IsAscending}
use Rattle.dual_simplex.proofs.system.is_proper_row.Given as goal

abbrev pub invariant-loop-term : goal.invariant-loop-term
invariant-loop-term l = record {
  back : IsAscending l.unknowns l.low (drop l.term-index l.row.terms.items) → IsAscending l.unknowns 0 l.row.terms.items;
  forth : IsAscending l.unknowns 0 l.row.terms.items → IsAscending l.unknowns l.low (drop l.term-index l.row.terms.items);
}
