use Rattle.std.proofs.Common.{◌≡◌, ◌+◌, ◌++◌, drop, map}
use Rattle.std.specs.Prelude.{All}
use Rattle.dual_simplex.specs.Systems.{plain_row, slack_lines}
use Rattle.dual_simplex.specs.Lines.{plain_line, IsSoundLine}
use Rattle.dual_simplex.proofs.solver.slack_lines.Given as goal

abbrev pub invariant-loop-row : goal.invariant-loop-row
invariant-loop-row l = record {
  number : l.variable ≡ l.unknowns + l.row-index;
  value : map plain_line l.lines.items
      ++ slack_lines l.unknowns l.variable (map plain_row (drop l.row-index l.rows)) ≡ slack_lines l.unknowns l.unknowns (map plain_row l.rows);
  sound : All (λ line. IsSoundLine l.unknowns (plain_line line)) l.lines.items;
}
