use Rattle.std.proofs.Common.{to_z-of_z, w64, FitsSigned, pos, get_or, ◌≡◌, rules, arith}
use Rattle.std.specs.Prelude.{int_div, false}
use Rattle.std.proofs.lemmas.Result.{err_from_is_err_and}
use Rattle.dual_simplex.specs.Equation.{mixed, is_small}
use Rattle.dual_simplex.proofs.Loops.{mix_turn, small_turn, mix_fails}
use Rattle.dual_simplex.proofs.arithmetic.mix_into.Goals as goal

pub returns-in_err-owns-clause-small : goal.returns-in_err-owns-clause-small
returns-in_err-owns-clause-small c =
    let i = c.loop-place.place in
    let owns = c.loop-place.owns in
    let others = c.args.others.now in
    let fs = c.ranges.scale in
    let ft = c.ranges.times in
    let fo : FitsSigned w64 (get_or owns i (pos 0)) = search rules in
    let fu : FitsSigned w64 (get_or others i (pos 0)) = search rules in
    let before = simp to_z-of_z at c.loop-place.invariant.value in
    let e : is_small (int_div (mixed c.args.scale c.args.times (get_or owns i (pos 0)) (get_or others i (pos 0))) (pos c.args.shared)) ≡ false = simp to_z-of_z at c.in_err-owns.ensures in
    let p = err_from_is_err_and c.from_residual.result c.from_residual.ensures.1 in
    rw p.1 (mix_fails c.args.scale c.args.times c.args.shared owns others _ i (omega arith) (omega arith) e before)

pub loop-place-preserved : goal.loop-place-preserved
loop-place-preserved c =
    let i = c.loop-place.place in
    let owns = c.loop-place.owns in
    let others = c.args.others.now in
    let fs = c.ranges.scale in
    let ft = c.ranges.times in
    let fo : FitsSigned w64 (get_or owns i (pos 0)) = search rules in
    let fu : FitsSigned w64 (get_or others i (pos 0)) = search rules in
    let fv : FitsSigned w64 c.in_ok-owns.field-0 = search rules in
    let before = simp to_z-of_z at c.loop-place.invariant.value in
    let got = simp to_z-of_z at c.in_ok-owns.ensures in
    let e : c.in_ok-owns.field-0 ≡ int_div (mixed c.args.scale c.args.times (get_or owns i (pos 0)) (get_or others i (pos 0))) (pos c.args.shared) = got.0 in
    record {
      value = simp to_z-of_z (mix_turn c.args.scale c.args.times c.args.shared owns others _ i c.in_ok-owns.field-0 (omega arith) (omega arith) e before);
      small = simp to_z-of_z (small_turn owns i c.in_ok-owns.field-0 (omega arith) got.1 c.loop-place.invariant.small);
    }
