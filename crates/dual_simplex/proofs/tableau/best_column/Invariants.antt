use Rattle.std.proofs.Common.{◌≡◌, drop, None}
use Rattle.std.specs.Prelude.{IfSome, ◌<◌, ◌<ℤ◌, pos, slice_index_or}
use Rattle.dual_simplex.specs.Scans.{entering_from}
use Rattle.dual_simplex.proofs.tableau.best_column.Given as goal

abbrev pub invariant-loop-place : goal.invariant-loop-place
invariant-loop-place l = record {
  value : entering_from l.best l.place (drop l.place l.columns) (drop l.place l.costs) (drop l.place l.factors) ≡ entering_from None 0 l.columns l.costs l.factors;
  inside : IfSome l.best (λ c. (c.place < l.place) × (pos 0 <ℤ slice_index_or l.factors c.place (pos 0)));
}
