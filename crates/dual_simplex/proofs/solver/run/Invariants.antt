use Rattle.std.proofs.Common.{◌≡◌, ◌-◌, ◌+◌, ◌<◌, ◌≤◌, ◌^◌, length}
use Rattle.dual_simplex.specs.Scans.{run_from, pivots_from}
use Rattle.dual_simplex.specs.Lines.{plain_tableau, IsSoundTableau}
use Rattle.dual_simplex.proofs.solver.run.Given as goal

abbrev pub invariant-loop-line : goal.invariant-loop-line
invariant-loop-line l = record {
  small : l.pivots ≤ 4096;
  sound : IsSoundTableau l.tableau;
  few : length l.tableau.columns.items + length l.tableau.lines.items < 2 ^ 32;
  value : run_from (4096 - l.pivots) l.pivots (plain_tableau l.tableau) ≡ run_from 4096 0 (plain_tableau l.fn.tableau);
  count : l.pivots + pivots_from (4096 - l.pivots) (plain_tableau l.tableau) ≡ pivots_from 4096 (plain_tableau l.fn.tableau);
}

abbrev pub decreases-loop-line : goal.decreases-loop-line
decreases-loop-line l = 4097 - l.pivots
