use Rattle.std.proofs.Common.{to_z-of_z, w64, FitsSigned, ℤ, ◌*ℤ◌, ◌≡◌, unsigned_abs, rules, subst, arith, ap, ◌∙◌, sym, ◌<◌, ◌≤◌, ◌^◌}
use Rattle.std.specs.Prelude.{pos, ◌<ℤ◌}
use Rattle.std.proofs.lemmas.Int.{ints}
use Rattle.dual_simplex.specs.Equation.{mixed, mixed_all}
use Rattle.dual_simplex.specs.Multiples.{IsGreatestCommon}
use Rattle.dual_simplex.proofs.Divisors.{shared_is, common_bound, shares_bound, common_positive}
use Rattle.dual_simplex.proofs.Sound.{product_positive}
use mir.Syntax.{w128}
use Rattle.dual_simplex.proofs.line.shared_divisor.Goals as goal

abs_positive : (x : ℤ) → pos 0 <ℤ x → 0 < unsigned_abs x
abs_positive x h = omega (arith, ints)

pub shared_by-requires-clause-start : goal.shared_by-requires-clause-start
shared_by-requires-clause-start c =
    let d = c.args.solved.now.divisor in
    let o = c.args.line.now.divisor in
    let fs : FitsSigned w64 d = search rules in
    let fo : FitsSigned w64 o = search rules in
    let fm : FitsSigned w128 c.product.result = record { sfits = c.product.type_inv } in
    let value = simp to_z-of_z at c.product.ensures.value in
    let size = simp to_z-of_z at c.unsigned_abs-divisor.ensures.value in
    let e : c.unsigned_abs-divisor.result ≡ unsigned_abs (d *ℤ o) = size ∙ ap unsigned_abs value in
    let p = abs_positive (d *ℤ o) (product_positive d o c.requires.other.positive c.requires.own.positive) in
    common_positive _ _ _ (omega arith) c.greatest_common-shared.ensures

pub returns-clause-value : goal.returns-clause-value
returns-clause-value c =
    let d = c.args.solved.now.divisor in
    let o = c.args.line.now.divisor in
    let t = c.args.times in
    let k = c.args.line.now.constant in
    let l = c.args.solved.now.constant in
    let fs : FitsSigned w64 d = search rules in
    let fo : FitsSigned w64 o = search rules in
    let fk : FitsSigned w64 k = search rules in
    let fl : FitsSigned w64 l = search rules in
    let ft = c.ranges.times in
    let fm : FitsSigned w128 c.product.result = record { sfits = c.product.type_inv } in
    let fn : FitsSigned w128 c.mix.result = record { sfits = c.mix.type_inv } in
    let value = simp to_z-of_z at c.product.ensures.value in
    let size = simp to_z-of_z at c.unsigned_abs-divisor.ensures.value in
    let other = simp to_z-of_z at c.mix.ensures.value in
    let other_size = simp to_z-of_z at c.unsigned_abs-constant.ensures.value in
    let e : c.unsigned_abs-divisor.result ≡ unsigned_abs (d *ℤ o) = size ∙ ap unsigned_abs value in
    let f : c.unsigned_abs-constant.result ≡ unsigned_abs (mixed d t k l) = other_size ∙ ap unsigned_abs other in
    let p = abs_positive (d *ℤ o) (product_positive d o c.requires.other.positive c.requires.own.positive) in
    let g : IsGreatestCommon (unsigned_abs (d *ℤ o)) (unsigned_abs (mixed d t k l)) c.greatest_common-shared.result =
    subst (λ n. IsGreatestCommon (unsigned_abs (d *ℤ o)) n c.greatest_common-shared.result) f
    (subst (λ n. IsGreatestCommon n c.unsigned_abs-constant.result c.greatest_common-shared.result) e c.greatest_common-shared.ensures) in
    let s = rw (c.deref.ensures.value, c.deref-2.ensures.value) at (simp to_z-of_z at c.shared_by.ensures.shared) in
    sym (shared_is (d *ℤ o) (mixed d t k l) (mixed_all d t c.args.line.now.factors.items c.args.solved.now.factors.items) _ _ p g s)

pub returns-clause-bound : goal.returns-clause-bound
returns-clause-bound c =
    let d = c.args.solved.now.divisor in
    let o = c.args.line.now.divisor in
    let fs : FitsSigned w64 d = search rules in
    let fo : FitsSigned w64 o = search rules in
    let fm : FitsSigned w128 c.product.result = record { sfits = c.product.type_inv } in
    let value = simp to_z-of_z at c.product.ensures.value in
    let size = simp to_z-of_z at c.unsigned_abs-divisor.ensures.value in
    let e : c.unsigned_abs-divisor.result ≡ unsigned_abs (d *ℤ o) = size ∙ ap unsigned_abs value in
    let p = abs_positive (d *ℤ o) (product_positive d o c.requires.other.positive c.requires.own.positive) in
    let some : 0 < c.unsigned_abs-divisor.result = omega arith in
    let below : c.unsigned_abs-divisor.result ≤ 2 ^ 126 = omega (arith, c.product.ensures.bound, size) in
    let q = common_bound c.unsigned_abs-divisor.result c.unsigned_abs-constant.result c.greatest_common-shared.result some c.greatest_common-shared.ensures in
    let r = shares_bound c.greatest_common-shared.result _ c.shared_by.result (common_positive _ _ _ some c.greatest_common-shared.ensures) c.shared_by.ensures.shared in
    omega arith
