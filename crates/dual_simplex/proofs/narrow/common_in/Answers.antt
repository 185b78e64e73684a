use Rattle.std.proofs.Common.{to_z-of_z, w64, FitsSigned, pos, get_or, unsigned_abs, rules, arith}
use Rattle.dual_simplex.specs.Multiples.{IsGreatestCommon}
use Rattle.dual_simplex.proofs.Divisors.{list_turn, list_at_one, common_positive, common_bound}
use Rattle.dual_simplex.proofs.narrow.common_in.Goals as goal

pub returns-then-shared-eq1-clause-shared : goal.returns-then-shared-eq1-clause-shared
returns-then-shared-eq1-clause-shared c = list_at_one _ c.loop-place.place _ _ c.if-shared-eq1.true c.loop-place.invariant.so_far

pub loop-place-preserved : goal.loop-place-preserved
loop-place-preserved c =
    let i = c.loop-place.place in
    let xs = c.args.numbers.now in
    let fx : FitsSigned w64 (get_or xs i (pos 0)) = search rules in
    let step : IsGreatestCommon c.loop-place.shared (unsigned_abs (get_or xs i (pos 0))) c.common_with-next.result = simp to_z-of_z at c.common_with-next.ensures in
    record {
      positive = common_positive _ _ _ c.loop-place.invariant.positive c.common_with-next.ensures;
      small = let b = common_bound _ _ _ c.loop-place.invariant.positive c.common_with-next.ensures in omega (arith, b, c.loop-place.invariant.small);
      so_far = list_turn xs i _ _ _ c.loop-place-test.true step c.loop-place.invariant.so_far;
    }
