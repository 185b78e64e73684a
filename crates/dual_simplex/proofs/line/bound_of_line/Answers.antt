use Rattle.std.proofs.Common.{◌≡◌, to_z-of_z, unsigned_abs, w64, FitsSigned, rules, arith, bit_or}
use Rattle.std.proofs.lemmas.Nat.{le_or_l, le_or_r}
use Rattle.dual_simplex.proofs.line.bound_of_line.Goals as goal

pub returns : goal.returns
returns c =
    let d = c.args.line.now.divisor in
    let k = c.args.line.now.constant in
    let fd : FitsSigned w64 d = search rules in
    let fk : FitsSigned w64 k = search rules in
    let e : c.unsigned_abs.result ≡ unsigned_abs d = simp to_z-of_z at c.unsigned_abs.ensures.value in
    let f : c.unsigned_abs-2.result ≡ unsigned_abs k = simp to_z-of_z at c.unsigned_abs-2.ensures.value in
    let two = bit_or c.bound_of.result c.unsigned_abs.result in
    let left = le_or_l two c.unsigned_abs-2.result in
    record {
      divisor = omega (arith, e, le_or_r c.bound_of.result c.unsigned_abs.result, left);
      constant = omega (arith, f, le_or_r two c.unsigned_abs-2.result);
      factors = λ n x p. let all = rw c.deref.ensures.value at c.bound_of.ensures in let b = all n x p in
          omega (arith, b, le_or_l c.bound_of.result c.unsigned_abs.result, left);
    }
