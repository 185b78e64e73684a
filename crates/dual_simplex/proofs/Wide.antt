-- Sums of two products fit 128 bits.
use Rattle.std.proofs.Common.{◌+◌, ◌^◌, ◌≤◌, ℤ, pos, negsuc, ◌+ℤ◌, ◌*ℤ◌, FitsSigned, unsigned_abs, IsTrue, arith, mul-le-mul, w64, to_z, of_z, to_z-of_z, ◌≡◌}
use Rattle.std.proofs.lemmas.Int.{ints, unsigned_abs-mul, fits_signed_from_abs}
use Rattle.dual_simplex.specs.Equation.{is_small, mixed}
use mir.Syntax.{w128}

pub abs_of_fits : (z : ℤ) → FitsSigned w64 z → unsigned_abs z ≤ 2 ^ 63
abs_of_fits (pos n) f = omega (arith, f.sfits)
abs_of_fits (negsuc n) f = omega (arith, f.sfits)

pub wider : (z : ℤ) → FitsSigned w64 z → FitsSigned w128 z
wider z f = fits_signed_from_abs w128 z (omega (arith, abs_of_fits z f))

pub abs_sum : (a b : ℤ) → unsigned_abs (a +ℤ b) ≤ unsigned_abs a + unsigned_abs b
abs_sum a b = omega (arith, ints)

pub small_abs : (x : ℤ) → IsTrue (is_small x) → unsigned_abs x ≤ 2 ^ 62
small_abs x h = grind arith

pub abs_product : (s o : ℤ) → unsigned_abs s ≤ 2 ^ 62 → FitsSigned w64 o → unsigned_abs (s *ℤ o) ≤ 2 ^ 125
abs_product s o h f =
    let k = mul-le-mul h (abs_of_fits o f) in
    omega (arith, unsigned_abs-mul s o, k)

pub product_fits : (s o : ℤ) → unsigned_abs s ≤ 2 ^ 62 → FitsSigned w64 o → FitsSigned w128 (s *ℤ o)
product_fits s o h f = fits_signed_from_abs w128 (s *ℤ o) (omega (arith, abs_product s o h f))

pub mixed_abs : (s t o u : ℤ) → IsTrue (is_small s) → IsTrue (is_small t) → FitsSigned w64 o → FitsSigned w64 u → unsigned_abs (mixed s t o u) ≤ 2 ^ 126
mixed_abs s t o u hs ht fo fu =
    omega (arith, abs_sum (s *ℤ o) (t *ℤ u), abs_product s o (small_abs s hs) fo, abs_product t u (small_abs t ht) fu)

pub mixed_fits : (s t o u : ℤ) → IsTrue (is_small s) → IsTrue (is_small t) → FitsSigned w64 o → FitsSigned w64 u → FitsSigned w128 (mixed s t o u)
mixed_fits s t o u hs ht fo fu = fits_signed_from_abs w128 (mixed s t o u) (omega (arith, mixed_abs s t o u hs ht fo fu))

pub product_wide : (a b : ℤ) → FitsSigned w64 a → FitsSigned w64 b → FitsSigned w128 (a *ℤ b)
product_wide a b f g =
    let k = mul-le-mul (abs_of_fits a f) (abs_of_fits b g) in
    fits_signed_from_abs w128 (a *ℤ b) (omega (arith, unsigned_abs-mul a b, k))

-- a product of two numbers of 64 bits, as code in 128 bits has it
pub product_read : (a b : ℤ) → FitsSigned w64 a → FitsSigned w64 b
    → to_z w128 (of_z w128 (to_z w128 (of_z w128 (to_z w64 (of_z w64 a))) *ℤ to_z w128 (of_z w128 (to_z w64 (of_z w64 b))))) ≡ a *ℤ b
product_read a b f g =
    let fa = wider a f in
    let fb = wider b g in
    let p = product_wide a b f g in
    simp to_z-of_z
