use Rattle.std.proofs.Common.{to_z-of_z, FitsSigned, ◌≡◌, unsigned_abs, subst}
use Rattle.std.specs.Prelude.{pos, ◌*ℤ◌}
use mir.Syntax.{w128}
use Rattle.dual_simplex.specs.Multiples.{IsGreatestCommon}
use Rattle.dual_simplex.proofs.Divisors.{greatest_swapped}
use Rattle.dual_simplex.proofs.Exact.{multiple_greatest}
use Rattle.dual_simplex.proofs.arithmetic.shared_with_value.Goals as goal

pub returns-in-Some : goal.returns-in-Some
returns-in-Some c =
    let fv : FitsSigned w128 c.args.value = c.ranges.value in
    let e : c.in-Some.field-0 *ℤ pos c.args.shared ≡ c.args.value = simp to_z-of_z at c.in-Some.ensures in
    multiple_greatest c.args.shared c.in-Some.field-0 c.args.value e

pub returns-in-None : goal.returns-in-None
returns-in-None c =
    let fv : FitsSigned w128 c.args.value = c.ranges.value in
    let e : c.unsigned_abs.result ≡ unsigned_abs c.args.value = simp to_z-of_z at c.unsigned_abs.ensures.value in
    greatest_swapped _ _ _ (subst (λ n. IsGreatestCommon n c.args.shared c.greatest_common.result) e c.greatest_common.ensures)
