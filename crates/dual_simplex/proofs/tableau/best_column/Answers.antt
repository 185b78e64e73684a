use Rattle.std.proofs.Common.{to_z-of_z, w64, FitsSigned, pos, get_or, rules, arith}
use Rattle.dual_simplex.proofs.Scans.{entering_turn, inside_turn}
use Rattle.dual_simplex.proofs.tableau.best_column.Goals as goal

pub loop-place-preserved : goal.loop-place-preserved
loop-place-preserved c =
    let i = c.loop-place.place in
    let fc : FitsSigned w64 (get_or c.args.costs.now i (pos 0)) = search rules in
    let ff : FitsSigned w64 (get_or c.args.factors.now i (pos 0)) = search rules in
    let e = simp to_z-of_z at c.better-best.ensures in
    record {
      value = entering_turn c.loop-place.best c.better-best.result c.args.columns.now c.args.costs.now c.args.factors.now i _ c.loop-place-test.true (omega arith) (omega arith) e c.loop-place.invariant.value;
      inside = inside_turn c.loop-place.best c.better-best.result c.args.columns.now c.args.costs.now c.args.factors.now i e c.loop-place.invariant.inside;
    }
