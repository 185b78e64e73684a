-- Quotients that were tried by a multiplication.
use Rattle.std.proofs.Common.{◌≡◌, ℕ, ◌<◌, ℤ, pos, ◌*ℤ◌, unsigned_abs, arith, ap, sym, ◌∙◌, subst}
use Rattle.std.specs.Prelude.{int_div}
use Rattle.std.proofs.lemmas.Int.{ints, unsigned_abs-mul}
use Rattle.std.proofs.lemmas.Nat.Gcd.{dvd_refl}
use native.Mathlib.Nat.{dvd-mul_left}
use Prim.Native.Nat.{◌∣◌}
use Rattle.dual_simplex.specs.Multiples.{IsGreatestCommon}
use Rattle.dual_simplex.proofs.Ring.{times_comm, cancel}
use Rattle.dual_simplex.proofs.Meaning.{times_divided}

multiple_divides : (g : ℕ) (q x : ℤ) → q *ℤ pos g ≡ x → g ∣ unsigned_abs x
multiple_divides g q x e = subst (λ n. g ∣ n) (sym (unsigned_abs-mul q (pos g)) ∙ ap unsigned_abs e) (dvd-mul_left g (unsigned_abs q))

-- a divisor of the other number is the greatest common one
pub multiple_greatest : (g : ℕ) (q x : ℤ) → q *ℤ pos g ≡ x → IsGreatestCommon g (unsigned_abs x) g
multiple_greatest g q x e = record { left = dvd_refl g; right = multiple_divides g q x e; greatest = λ h v p r. p }

pub exact_is : (g : ℕ) (q x : ℤ) → 0 < g → q *ℤ pos g ≡ x → q ≡ int_div x (pos g)
exact_is g q x p e =
    cancel (pos g) q (int_div x (pos g)) (omega (arith, ints)) (times_comm (pos g) q ∙ e ∙ sym (times_divided x g (multiple_divides g q x e)))
