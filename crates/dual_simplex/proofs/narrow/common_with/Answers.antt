use Rattle.std.proofs.Common.{to_z-of_z, unsigned_abs, subst, ◌≡◌}
use Rattle.dual_simplex.specs.Multiples.{IsGreatestCommon}
use Rattle.std.specs.Prelude.{pos, ◌*ℤ◌}
use Rattle.dual_simplex.proofs.Divisors.{greatest_swapped}
use Rattle.dual_simplex.proofs.Exact.{multiple_greatest}
use Rattle.dual_simplex.proofs.narrow.common_with.Goals as goal

pub returns-in-None : goal.returns-in-None
returns-in-None c =
    let fn = c.ranges.number in
    let e : c.unsigned_abs.result ≡ unsigned_abs c.args.number = simp to_z-of_z at c.unsigned_abs.ensures.value in
    greatest_swapped _ _ _ (subst (λ n. IsGreatestCommon n c.args.shared c.common_of.result) e c.common_of.ensures)

pub returns-in-Some : goal.returns-in-Some
returns-in-Some c =
    let fn = c.ranges.number in
    let e : c.in-Some.field-0 *ℤ pos c.args.shared ≡ c.args.number = simp to_z-of_z at c.in-Some.ensures in
    multiple_greatest c.args.shared c.in-Some.field-0 c.args.number e
