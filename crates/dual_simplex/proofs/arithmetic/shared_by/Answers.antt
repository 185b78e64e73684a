use Rattle.std.proofs.Common.{to_z-of_z, w64, FitsSigned, pos, get_or, unsigned_abs, rules, arith, length, ◌<◌}
use Rattle.dual_simplex.specs.Equation.{mixed}
use Rattle.dual_simplex.specs.Multiples.{IsGreatestCommon}
use Rattle.dual_simplex.proofs.Divisors.{shares_turn, shares_done, shares_at_one, common_positive}
use Rattle.dual_simplex.proofs.arithmetic.shared_by.Goals as goal

pub returns-then-shared-eq1-clause-shared : goal.returns-then-shared-eq1-clause-shared
returns-then-shared-eq1-clause-shared c =
    let fs = c.ranges.scale in
    let ft = c.ranges.times in
    let before = simp to_z-of_z at c.loop-place.invariant.so_far in
    shares_at_one _ _ _ _ c.loop-place.place _ _ c.if-shared-eq1.true before

pub loop-place-preserved : goal.loop-place-preserved
loop-place-preserved c =
    let i = c.loop-place.place in
    let owns = c.args.owns.now in
    let others = c.args.others.now in
    let fs = c.ranges.scale in
    let ft = c.ranges.times in
    let fo : FitsSigned w64 (get_or owns i (pos 0)) = search rules in
    let fu : FitsSigned w64 (get_or others i (pos 0)) = search rules in
    let step : IsGreatestCommon c.loop-place.shared (unsigned_abs (mixed c.args.scale c.args.times (get_or owns i (pos 0)) (get_or others i (pos 0)))) c.shared_with-next.result = simp to_z-of_z at c.shared_with-next.ensures in
    let inside : i < length owns = c.loop-place-test.true in
    let before = simp to_z-of_z at c.loop-place.invariant.so_far in
    record {
      positive = common_positive _ _ _ c.loop-place.invariant.positive c.shared_with-next.ensures;
      so_far = simp to_z-of_z (shares_turn c.args.scale c.args.times owns others i c.args.start c.loop-place.shared c.shared_with-next.result inside (omega arith) step before);
    }

pub returns-clause-shared : goal.returns-clause-shared
returns-clause-shared c =
    let fs = c.ranges.scale in
    let ft = c.ranges.times in
    let before = simp to_z-of_z at c.loop-place.invariant.so_far in
    shares_done _ _ _ _ c.loop-place.place _ _ c.loop-place-test.false before
