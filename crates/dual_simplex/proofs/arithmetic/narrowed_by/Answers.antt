use Rattle.std.proofs.Common.{to_z-of_z, w64, FitsSigned, ◌≡◌, ◌≤◌, ◌^◌, rules, ◌∙◌, arith, ap, true, unsigned_abs}
use Rattle.std.specs.Prelude.{pos, ◌*ℤ◌}
use mir.Syntax.{w128}
use Rattle.dual_simplex.specs.Equation.{is_small}
use Rattle.dual_simplex.proofs.Exact.{exact_is}
use Rattle.dual_simplex.proofs.arithmetic.narrowed_by.Goals as goal

pub returns-in-Some : goal.returns-in-Some
returns-in-Some c =
    let fg : FitsSigned w64 c.in-Some.guess = search rules in
    let fv : FitsSigned w128 c.args.value = c.ranges.value in
    let e : c.in-Some.guess *ℤ pos c.args.shared ≡ c.args.value = simp to_z-of_z at c.in-Some.ensures in
    let size : c.unsigned_abs.result ≡ unsigned_abs c.in-Some.guess = simp to_z-of_z at c.unsigned_abs.ensures.value in
    let below : unsigned_abs c.in-Some.guess ≤ 2 ^ 62 = omega (arith, size, c.if-unsigned_abs-le-LIMIT.true) in
    let small : is_small c.in-Some.guess ≡ true = grind arith in
    (to_z-of_z fg ∙ exact_is c.args.shared c.in-Some.guess c.args.value c.requires.positive e, ap is_small (to_z-of_z fg) ∙ small)
