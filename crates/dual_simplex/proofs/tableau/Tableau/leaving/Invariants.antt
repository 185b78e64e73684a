use Rattle.std.proofs.Common.{◌≡◌, map, drop, None}
use Rattle.std.specs.Prelude.{IfSome, ◌<◌}
use Rattle.dual_simplex.specs.Scans.{leaving_from}
use Rattle.dual_simplex.specs.Lines.{plain_line}
use Rattle.dual_simplex.proofs.tableau.Tableau.leaving.Given as goal

abbrev pub invariant-loop-place : goal.invariant-loop-place
invariant-loop-place l = record {
  value : leaving_from l.best l.place (map plain_line (drop l.place l.self.lines.items)) ≡ leaving_from None 0 (map plain_line l.self.lines.items);
  inside : IfSome l.best (λ c. c.place < l.place);
}
