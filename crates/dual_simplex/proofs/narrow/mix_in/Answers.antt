use Rattle.std.proofs.Common.{to_z-of_z, w64, FitsSigned, pos, get_or, ◌≡◌, rules, arith}
use Rattle.dual_simplex.specs.Equation.{mixed}
use Rattle.dual_simplex.proofs.Cut.{mixed_turn}
use Rattle.dual_simplex.proofs.narrow.mix_in.Goals as goal

pub loop-place-preserved : goal.loop-place-preserved
loop-place-preserved c =
    let i = c.loop-place.place in
    let owns = c.loop-place.owns in
    let others = c.args.others.now in
    let fs = c.ranges.scale in
    let ft = c.ranges.times in
    let fo : FitsSigned w64 (get_or owns i (pos 0)) = search rules in
    let fu : FitsSigned w64 (get_or others i (pos 0)) = search rules in
    let fv : FitsSigned w64 c.mix_small.result = record { sfits = c.mix_small.type_inv } in
    let before = simp to_z-of_z at c.loop-place.invariant in
    let e : c.mix_small.result ≡ mixed c.args.scale c.args.times (get_or owns i (pos 0)) (get_or others i (pos 0)) = simp to_z-of_z at c.mix_small.ensures in
    simp to_z-of_z (mixed_turn c.args.scale c.args.times owns others _ i c.mix_small.result (omega arith) (omega arith) e before)
