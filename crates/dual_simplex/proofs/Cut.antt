-- Numbers that stay small, in 64 bits.
use Rattle.std.proofs.Common.{◌≡◌, ℕ, ◌+◌, ◌*◌, ◌%◌, ◌^◌, ◌<◌, ◌≤◌, ℤ, pos, ◌+ℤ◌, ◌*ℤ◌, List, [], ◌∷◌, ◌++◌, map, length, drop, take, set, get_or, Bool, true, false, FitsSigned, unsigned_abs, arith, ap, sym, ◌∙◌, refl, subst, w64, to_z, of_z, to_z-of_z, append_assoc, mod-lt}
use Rattle.std.proofs.Math.Facts.{Fits-of_z, Fits-lt-pow}
use Rattle.std.specs.Int.{int_wrap}
use Rattle.std.proofs.lemmas.Int.{fits_signed_from_abs, wrapping_add-bits, wrapping_mul_onto, int_wrap-add_left, int_wrap-add_right, int_wrap_fits}
use Rattle.std.proofs.lemmas.List.{take_more_set}
use Rattle.std.specs.Prelude.{int_div, All}
use Rattle.std.specs.List.{list_all}
use Rattle.dual_simplex.specs.Equation.{is_small, mixed, mixed_all}
use Rattle.dual_simplex.proofs.Wide.{small_abs}
use Rattle.dual_simplex.proofs.Loops.{all_turn, map_turn, drop_next, drop_set_next, fails_inside}

-- ---- what is cut off on the way changes nothing
is_small_fits : (z : ℤ) → is_small z ≡ true → FitsSigned w64 z
is_small_fits z h = fits_signed_from_abs w64 z (omega (arith, small_abs z (grind arith)))

product_wraps : (a b : ℤ) → FitsSigned w64 a → FitsSigned w64 b → to_z w64 (of_z w64 a * of_z w64 b % 2 ^ 64) ≡ int_wrap w64 (a *ℤ b)
product_wraps a b f g = wrapping_mul_onto w64 (of_z w64 a) b (Fits-lt-pow (Fits-of_z f)) g ∙ ap (λ x. int_wrap w64 (x *ℤ b)) (to_z-of_z f)

pub product_small : (a b : ℤ) → FitsSigned w64 a → FitsSigned w64 b → is_small (a *ℤ b) ≡ true → to_z w64 (of_z w64 a * of_z w64 b % 2 ^ 64) ≡ a *ℤ b
product_small a b f g h = product_wraps a b f g ∙ int_wrap_fits w64 (a *ℤ b) (is_small_fits (a *ℤ b) h)

pub mixed_wraps : (s t o u : ℤ) → FitsSigned w64 s → FitsSigned w64 t → FitsSigned w64 o → FitsSigned w64 u → is_small (mixed s t o u) ≡ true
    → to_z w64 ((of_z w64 s * of_z w64 o % 2 ^ 64 + of_z w64 t * of_z w64 u % 2 ^ 64) % 2 ^ 64) ≡ mixed s t o u
mixed_wraps s t o u fs ft fo fu h =
    wrapping_add-bits w64 (of_z w64 s * of_z w64 o % 2 ^ 64) (of_z w64 t * of_z w64 u % 2 ^ 64) (mod-lt _ (omega arith)) (mod-lt _ (omega arith))
    ∙ ap (λ x. int_wrap w64 (x +ℤ to_z w64 (of_z w64 t * of_z w64 u % 2 ^ 64))) (product_wraps s o fs fo)
    ∙ ap (λ x. int_wrap w64 (int_wrap w64 (s *ℤ o) +ℤ x)) (product_wraps t u ft fu)
    ∙ int_wrap-add_left w64 (s *ℤ o) (int_wrap w64 (t *ℤ u))
    ∙ int_wrap-add_right w64 (s *ℤ o) (t *ℤ u)
    ∙ int_wrap_fits w64 (mixed s t o u) (is_small_fits (mixed s t o u) h)

-- ---- sizes
pub bound_turn : (xs : List ℤ) (i low high : ℕ) → i < length xs → low ≤ high → unsigned_abs (get_or xs i (pos 0)) ≤ high
    → All (λ x. unsigned_abs x ≤ low) (take i xs) → All (λ x. unsigned_abs x ≤ high) (take (i + 1) xs)
bound_turn xs i low high p q own before =
    all_turn (λ x. unsigned_abs x ≤ high) xs i (pos 0) p own (λ k d r. let b = before k d r in omega arith)

-- ---- numbers mixed into others
mixed_next : (s t : ℤ) (os us : List ℤ) (i : ℕ) → i < length os → i < length us
    → mixed_all s t (drop i os) (drop i us) ≡ mixed s t (get_or os i (pos 0)) (get_or us i (pos 0)) ∷ mixed_all s t (drop (i + 1) os) (drop (i + 1) us)
mixed_next s t os us i p q = rw (drop_next os i (pos 0) p, drop_next us i (pos 0) q)

pub mixed_turn : (s t : ℤ) (os us all : List ℤ) (i : ℕ) (v : ℤ) → i < length os → i < length us
    → v ≡ mixed s t (get_or os i (pos 0)) (get_or us i (pos 0))
    → take i os ++ mixed_all s t (drop i os) (drop i us) ≡ all
    → take (i + 1) (set os i v) ++ mixed_all s t (drop (i + 1) (set os i v)) (drop (i + 1) us) ≡ all
mixed_turn s t os us all i v p q e before =
    ap (λ xs. xs ++ mixed_all s t (drop (i + 1) (set os i v)) (drop (i + 1) us)) (take_more_set os i v p)
    ∙ append_assoc (take i os) (v ∷ []) (mixed_all s t (drop (i + 1) (set os i v)) (drop (i + 1) us))
    ∙ ap (λ xs. take i os ++ v ∷ mixed_all s t xs (drop (i + 1) us)) (drop_set_next os i v)
    ∙ ap (λ x. take i os ++ x ∷ mixed_all s t (drop (i + 1) os) (drop (i + 1) us)) e
    ∙ ap (λ xs. take i os ++ xs) (sym (mixed_next s t os us i p q))
    ∙ before

small_inside : {A : Type 0} (test : A → Bool) (b : Bool) (front rest : List A) (x : A) → test x ≡ b → list_all test (front ++ x ∷ rest) ≡ true → b ≡ true
small_inside test true front rest x e h = refl
small_inside test false front rest x e h = let no = fails_inside test front rest x e in absurd cc

pub mixed_small : (s t : ℤ) (os us all : List ℤ) (i : ℕ) → i < length os → i < length us
    → take i os ++ mixed_all s t (drop i os) (drop i us) ≡ all → list_all is_small all ≡ true
    → is_small (mixed s t (get_or os i (pos 0)) (get_or us i (pos 0))) ≡ true
mixed_small s t os us all i p q before h =
    small_inside is_small (is_small (mixed s t (get_or os i (pos 0)) (get_or us i (pos 0)))) (take i os) (mixed_all s t (drop (i + 1) os) (drop (i + 1) us))
    (mixed s t (get_or os i (pos 0)) (get_or us i (pos 0))) refl
    (subst (λ xs. list_all is_small xs ≡ true) (sym before ∙ ap (λ xs. take i os ++ xs) (mixed_next s t os us i p q)) h)

-- ---- numbers divided
pub divided_turn : (g : ℕ) (xs all : List ℤ) (i : ℕ) (v : ℤ) → i < length xs → v ≡ int_div (get_or xs i (pos 0)) (pos g)
    → take i xs ++ map (λ x. int_div x (pos g)) (drop i xs) ≡ all
    → take (i + 1) (set xs i v) ++ map (λ x. int_div x (pos g)) (drop (i + 1) (set xs i v)) ≡ all
divided_turn g xs all i v p e before =
    ap (λ ys. take (i + 1) (set xs i v) ++ map (λ x. int_div x (pos g)) ys) (drop_set_next xs i v)
    ∙ map_turn (λ x. int_div x (pos g)) xs xs all i (pos 0) v p p e before
