use Rattle.std.proofs.Common.{to_z-of_z, w64, FitsSigned, ◌≡◌, unsigned_abs, rules, arith, subst, sym, ◌<◌, ◌≤◌, ◌^◌}
use Rattle.dual_simplex.specs.Multiples.{IsGreatestCommon}
use Rattle.dual_simplex.specs.Lines.{plain_line}
use Rattle.dual_simplex.proofs.Divisors.{shared_is, common_bound, shares_bound, common_positive}
use Rattle.dual_simplex.proofs.Sound.{abs_positive, fits_divisor}
use Rattle.dual_simplex.proofs.Wide.{small_abs}
use Rattle.dual_simplex.proofs.line.divisor_of.Goals as goal

pub common_in-requires-clause-small : goal.common_in-requires-clause-small
common_in-requires-clause-small c =
    let d = c.args.line.now.divisor in
    let fd : FitsSigned w64 d = search rules in
    let e : c.unsigned_abs.result ≡ unsigned_abs d = simp to_z-of_z at c.unsigned_abs.ensures.value in
    let p = abs_positive d c.requires.positive in
    let some : 0 < c.unsigned_abs.result = omega arith in
    let small = fits_divisor (plain_line c.args.line.now) c.requires.small in
    let below : unsigned_abs d ≤ 2 ^ 62 = small_abs d (grind arith) in
    let q = common_bound c.unsigned_abs.result c.unsigned_abs-2.result c.common_of-first.result some c.common_of-first.ensures in
    omega arith

pub common_in-requires-clause-positive : goal.common_in-requires-clause-positive
common_in-requires-clause-positive c =
    let d = c.args.line.now.divisor in
    let fd : FitsSigned w64 d = search rules in
    let e : c.unsigned_abs.result ≡ unsigned_abs d = simp to_z-of_z at c.unsigned_abs.ensures.value in
    let p = abs_positive d c.requires.positive in
    common_positive _ _ _ (omega arith) c.common_of-first.ensures

pub returns-clause-value : goal.returns-clause-value
returns-clause-value c =
    let d = c.args.line.now.divisor in
    let k = c.args.line.now.constant in
    let fd : FitsSigned w64 d = search rules in
    let fk : FitsSigned w64 k = search rules in
    let e : c.unsigned_abs.result ≡ unsigned_abs d = simp to_z-of_z at c.unsigned_abs.ensures.value in
    let f : c.unsigned_abs-2.result ≡ unsigned_abs k = simp to_z-of_z at c.unsigned_abs-2.ensures.value in
    let p = abs_positive d c.requires.positive in
    let g : IsGreatestCommon (unsigned_abs d) (unsigned_abs k) c.common_of-first.result =
    subst (λ n. IsGreatestCommon (unsigned_abs d) n c.common_of-first.result) f
    (subst (λ n. IsGreatestCommon n c.unsigned_abs-2.result c.common_of-first.result) e c.common_of-first.ensures) in
    let s = rw c.deref.ensures.value at c.common_in.ensures.shared in
    sym (shared_is d k c.args.line.now.factors.items _ _ p g s)

pub returns-clause-bound : goal.returns-clause-bound
returns-clause-bound c =
    let d = c.args.line.now.divisor in
    let fd : FitsSigned w64 d = search rules in
    let e : c.unsigned_abs.result ≡ unsigned_abs d = simp to_z-of_z at c.unsigned_abs.ensures.value in
    let p = abs_positive d c.requires.positive in
    let some : 0 < c.unsigned_abs.result = omega arith in
    let small = fits_divisor (plain_line c.args.line.now) c.requires.small in
    let below : unsigned_abs d ≤ 2 ^ 62 = small_abs d (grind arith) in
    let q = common_bound c.unsigned_abs.result c.unsigned_abs-2.result c.common_of-first.result some c.common_of-first.ensures in
    let r = shares_bound c.common_of-first.result _ c.common_in.result (common_positive _ _ _ some c.common_of-first.ensures) c.common_in.ensures.shared in
    omega arith
