use Rattle.std.proofs.Common.{to_z-of_z, w64, FitsSigned, ◌≡◌, ◌≤◌, ◌+◌, ◌*◌, ◌^◌, unsigned_abs, rules, arith, subst}
use Rattle.dual_simplex.specs.Lines.{plain_line}
use Rattle.dual_simplex.proofs.Sound.{combined_fits}
use Rattle.dual_simplex.proofs.line.stays_small.Goals as goal

pub returns : goal.returns
returns c = λ h.
    let d = c.args.solved.now.divisor in
    let t = c.args.times in
    let a = c.bound_of_line-own in
    let bound = c.args.bound in
    let within = c.requires.bound in
    let fd : FitsSigned w64 d = search rules in
    let ft = c.ranges.times in
    let e : c.unsigned_abs-scale.result ≡ unsigned_abs d = simp to_z-of_z at c.unsigned_abs-scale.ensures.value in
    let f : c.unsigned_abs.result ≡ unsigned_abs t = simp to_z-of_z at c.unsigned_abs.ensures.value in
    let all : c.unsigned_abs-scale.result * a.result + c.unsigned_abs.result * bound ≤ 2 ^ 62 = grind arith in
    let plain = subst (λ n. unsigned_abs d * a.result + n * bound ≤ 2 ^ 62) f (subst (λ n. n * a.result + c.unsigned_abs.result * bound ≤ 2 ^ 62) e all) in
    combined_fits t (plain_line c.args.solved.now) (plain_line c.args.line.now) a.result bound
    a.ensures.divisor a.ensures.constant a.ensures.factors within.constant within.factors plain
