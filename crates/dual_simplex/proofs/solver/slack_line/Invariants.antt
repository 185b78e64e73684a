use Rattle.std.proofs.Common.{◌≡◌, drop, length, replicate, pos, true}
use Rattle.std.specs.List.{list_all}
use Rattle.dual_simplex.specs.Equation.{is_small}
use Rattle.dual_simplex.specs.Systems.{spread}
use Rattle.dual_simplex.proofs.solver.slack_line.Given as goal

abbrev pub invariant-loop-term : goal.invariant-loop-term
invariant-loop-term l = record {
  width : length l.factors.items ≡ l.unknowns;
  small : list_all is_small l.factors.items ≡ true;
  value : spread l.factors.items (drop l.term-index l.row.terms.items) ≡ spread (replicate l.unknowns (pos 0)) l.row.terms.items;
}
