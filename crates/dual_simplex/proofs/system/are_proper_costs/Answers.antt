use Rattle.std.proofs.Common.{◌≤◌, ◌^◌, arith, rules, pos, get_or, unsigned_abs, to_z-of_z, w64, FitsSigned}
use Rattle.std.specs.Prelude.{◌≤ℤ◌}
use Rattle.std.proofs.lemmas.Int.{ints}
use Rattle.dual_simplex.proofs.Loops.{all_turn, all_done}
use Rattle.dual_simplex.proofs.system.are_proper_costs.Goals as goal

pub loop-cost-preserved : goal.loop-cost-preserved
loop-cost-preserved c =
    let x = get_or c.args.costs.now c.loop-cost.cost-index (pos 0) in
    let f : FitsSigned w64 x = search rules in
    let size = simp to_z-of_z at c.unsigned_abs.ensures.value in
    let above = simp to_z-of_z at c.if-cost-lt0.false in
    let low : pos 0 ≤ℤ x = omega (arith, ints) in
    let high : unsigned_abs x ≤ 2 ^ 31 = omega arith in
    all_turn (λ cost. (pos 0 ≤ℤ cost) × (unsigned_abs cost ≤ 2 ^ 31)) c.args.costs.now c.loop-cost.cost-index (pos 0) c.loop-cost-test.true (low, high) c.loop-cost.invariant

pub returns : goal.returns
returns c = (
  (λ h. all_done (λ cost. (pos 0 ≤ℤ cost) × (unsigned_abs cost ≤ 2 ^ 31)) c.args.costs.now c.loop-cost.cost-index c.loop-cost-test.false c.loop-cost.invariant),
  (λ h. search rules),
)
