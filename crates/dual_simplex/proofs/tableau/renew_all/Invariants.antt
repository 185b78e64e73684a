use Rattle.std.proofs.Common.{◌≡◌, map, drop, take, ◌++◌, length}
use Rattle.std.specs.Prelude.{All}
use Rattle.dual_simplex.specs.Tableau.{renewed}
use Rattle.dual_simplex.specs.Lines.{plain_line, IsSoundLine}
use Rattle.dual_simplex.proofs.tableau.renew_all.Given as goal

abbrev pub invariant-loop-line : goal.invariant-loop-line
invariant-loop-line l = record {
  value : map plain_line (take l.line-index l.lines)
      ++ map (renewed l.leaving l.place (plain_line l.solved)) (map plain_line (drop l.line-index l.lines)) ≡ map (renewed l.leaving l.place (plain_line l.solved)) (map plain_line l.initial.lines);
  sound : All (λ line. IsSoundLine (length l.solved.factors.items) (plain_line line)) l.lines;
}
