-- What a pivot does keeps the equations sound.
use Rattle.std.proofs.Common.{◌≡◌, ℕ, suc, zero, ◌+◌, ◌*◌, ◌/◌, ◌^◌, ◌<◌, ◌≤◌, ℤ, pos, negsuc, ◌*ℤ◌, List, [], ◌∷◌, map, length, set, get_or, Bool, true, false, ◌&&◌, nat_eq, arith, ap, sym, ◌∙◌, refl, subst, unsigned_abs, cond, mul-le-mul}
use Rattle.std.proofs.lemmas.Int.{ints, unsigned_abs-mul}
use Rattle.std.proofs.lemmas.List.{length-map, length-set}
use Rattle.std.proofs.lemmas.List.Recursion.{and_set}
use Rattle.std.specs.Prelude.{Result, OnOk, OnErr, MatchResult, Ok, Err, ◌<ℤ◌, int_div, neg_ℤ}
use Rattle.std.specs.List.{list_all}
use native.Mathlib.Nat.{div-mul_cancel, div-le_self}
use Prim.Native.Nat.{◌∣◌}
use Rattle.dual_simplex.specs.Division.{divides_all, greatest_up_to, common_divisor, DividesAll}
use Rattle.dual_simplex.specs.Equation.{Equation, is_small, fits, factor_at, solved_for, mixed, mixed_all, without, combined, divided, put_in}
use Rattle.std.proofs.lemmas.List.{get_or-map}
use Rattle.std.specs.Prelude.{All}
use Rattle.dual_simplex.specs.declared.line.Line.{Line}
use Rattle.dual_simplex.specs.declared.tableau.Tableau.{Tableau}
use Rattle.dual_simplex.specs.Tableau.{all_fit, no_line}
use Rattle.dual_simplex.specs.Lines.{plain_line, plain_tableau, IsSoundLine, IsSoundTableau}
use Rattle.dual_simplex.proofs.Divisors.{one_divides_all, from_test}
use Rattle.dual_simplex.proofs.Wide.{abs_sum}

and_left : (a b : Bool) → (a && b) ≡ true → a ≡ true
and_left true b p = refl
and_left false b p = p

and_right : (a b : Bool) → (a && b) ≡ true → b ≡ true
and_right true b p = p
and_right false b p = absurd cc

and_both : (a b : Bool) → a ≡ true → b ≡ true → (a && b) ≡ true
and_both true true p q = refl
and_both true false p q = q
and_both false b p q = p

-- ---- the parts of `fits`
pub fits_divisor : (e : Equation) → fits e ≡ true → is_small e.divisor ≡ true
fits_divisor e h = and_left (is_small e.divisor) (is_small e.constant && list_all is_small e.factors) h

pub fits_constant : (e : Equation) → fits e ≡ true → is_small e.constant ≡ true
fits_constant e h = and_left (is_small e.constant) (list_all is_small e.factors) (and_right (is_small e.divisor) (is_small e.constant && list_all is_small e.factors) h)

pub fits_factors : (e : Equation) → fits e ≡ true → list_all is_small e.factors ≡ true
fits_factors e h = and_right (is_small e.constant) (list_all is_small e.factors) (and_right (is_small e.divisor) (is_small e.constant && list_all is_small e.factors) h)

pub fits_from : (e : Equation) → is_small e.divisor ≡ true → is_small e.constant ≡ true → list_all is_small e.factors ≡ true → fits e ≡ true
fits_from e p q r = and_both (is_small e.divisor) (is_small e.constant && list_all is_small e.factors) p (and_both (is_small e.constant) (list_all is_small e.factors) q r)

pub fits_not_divisor : (e : Equation) → is_small e.divisor ≡ false → fits e ≡ false
fits_not_divisor e p = ap (λ b. b && (is_small e.constant && list_all is_small e.factors)) p

and_false : (b : Bool) → (b && false) ≡ false
and_false true = refl
and_false false = refl

pub fits_not_constant : (e : Equation) → is_small e.constant ≡ false → fits e ≡ false
fits_not_constant e p = ap (λ b. is_small e.divisor && (b && list_all is_small e.factors)) p ∙ and_false (is_small e.divisor)

pub fits_not_factors : (e : Equation) → list_all is_small e.factors ≡ false → fits e ≡ false
fits_not_factors e p = ap (λ b. is_small e.divisor && (is_small e.constant && b)) p ∙ ap (λ b. is_small e.divisor && b) (and_false (is_small e.constant)) ∙ and_false (is_small e.divisor)

pub small_at : (xs : List ℤ) (i : ℕ) → list_all is_small xs ≡ true → is_small (get_or xs i (pos 0)) ≡ true
small_at [] i h = refl
small_at (x ∷ xs) zero h = and_left (is_small x) (list_all is_small xs) h
small_at (x ∷ xs) (suc i) h = small_at xs i (and_right (is_small x) (list_all is_small xs) h)

small_set : (xs : List ℤ) (i : ℕ) (x : ℤ) → is_small x ≡ true → list_all is_small xs ≡ true → list_all is_small (set xs i x) ≡ true
small_set xs i x p h = and_set (list_all is_small) is_small refl (λ y ys. refl) xs i x p h

small_negated : (xs : List ℤ) → list_all is_small xs ≡ true → list_all is_small (map neg_ℤ xs) ≡ true
small_negated [] h = refl
small_negated (x ∷ xs) h =
    and_both (is_small (neg_ℤ x)) (list_all is_small (map neg_ℤ xs)) (negated x (and_left (is_small x) (list_all is_small xs) h)) (small_negated xs (and_right (is_small x) (list_all is_small xs) h))
  where
    negated : (y : ℤ) → is_small y ≡ true → is_small (neg_ℤ y) ≡ true
    negated (pos zero) p = p
    negated (pos (suc n)) p = p
    negated (negsuc n) p = p

-- ---- an equation without a column
pub sound_without : (width place : ℕ) (e : Equation) → IsSoundLine width e → IsSoundLine width (without place e)
sound_without width place e s = record {
  columns = length-set e.factors place (pos 0) ∙ s.columns;
  positive = s.positive;
  small = fits_from (without place e) (fits_divisor e s.small) (fits_constant e s.small) (small_set e.factors place (pos 0) refl (fits_factors e s.small));
}

-- ---- the solved equation
pub sound_solved : (width place entering : ℕ) (e : Equation) → IsSoundLine width e → pos 0 <ℤ factor_at place e
    → IsSoundLine width (solved_for place entering e)
sound_solved width place entering e s p = record {
  columns = length-set (map neg_ℤ e.factors) place e.divisor ∙ length-map e.factors neg_ℤ ∙ s.columns;
  positive = p;
  small = fits_from (solved_for place entering e) (small_at e.factors place (fits_factors e s.small)) (negated e.constant (fits_constant e s.small))
      (small_set (map neg_ℤ e.factors) place e.divisor (fits_divisor e s.small) (small_negated e.factors (fits_factors e s.small)));
}
  where
    negated : (y : ℤ) → is_small y ≡ true → is_small (neg_ℤ y) ≡ true
    negated (pos zero) p = p
    negated (pos (suc n)) p = p
    negated (negsuc n) p = p

-- ---- put in, and in lowest terms
pub length-mixed_all : (s t : ℤ) (os us : List ℤ) → length os ≡ length us → length (mixed_all s t os us) ≡ length os
length-mixed_all s t [] us h = refl
length-mixed_all s t (o ∷ os) [] h = absurd (omega (arith, h))
length-mixed_all s t (o ∷ os) (u ∷ us) h = ap suc (length-mixed_all s t os us (omega (arith, h)))

greatest_divides_by : (b : Bool) (n : ℕ) (xs : List ℤ) → divides_all (suc n) xs ≡ b → DividesAll (greatest_up_to n xs) xs
    → DividesAll (cond b (suc n) (greatest_up_to n xs)) xs
greatest_divides_by true n xs e d = from_test (suc n) xs e
greatest_divides_by false n xs e d = d

pub greatest_divides : (n : ℕ) (xs : List ℤ) → DividesAll (greatest_up_to n xs) xs
greatest_divides zero xs = one_divides_all xs
greatest_divides (suc n) xs = greatest_divides_by (divides_all (suc n) xs) n xs refl (greatest_divides n xs)

pub product_positive : (a b : ℤ) → pos 0 <ℤ a → pos 0 <ℤ b → pos 0 <ℤ (a *ℤ b)
product_positive (pos zero) b p q = absurd (omega (arith, ints))
product_positive (pos (suc m)) (pos zero) p q = absurd (omega (arith, ints))
product_positive (pos (suc m)) (pos (suc n)) p q = omega (arith, ints)
product_positive (pos (suc m)) (negsuc n) p q = absurd (omega (arith, ints))
product_positive (negsuc m) b p q = absurd (omega (arith, ints))

quotient_positive : (n g : ℕ) → 0 < n → g ∣ n → 0 < n / g
quotient_positive n g p d = nonzero (n / g) g n (div-mul_cancel g d) p
  where
    nonzero : (q g n : ℕ) → q * g ≡ n → 0 < n → 0 < q
    nonzero zero g n e p = absurd (omega arith)
    nonzero (suc q) g n e p = omega arith

pub divided_positive : (x : ℤ) (g : ℕ) → pos 0 <ℤ x → g ∣ unsigned_abs x → pos 0 <ℤ int_div x (pos g)
divided_positive (pos n) g p d = let q : 0 < n / g = quotient_positive n g (omega (arith, ints)) d in omega (arith, ints)
divided_positive (negsuc n) g p d = absurd (omega (arith, ints))

pub sound_lowest : (width : ℕ) (times : ℤ) (solved own new : Equation) (shared : ℕ) → IsSoundLine width solved → IsSoundLine width own
    → shared ≡ common_divisor (solved.divisor *ℤ own.divisor) ((combined times solved own).constant ∷ (combined times solved own).factors)
    → new ≡ divided shared (combined times solved own) → fits new ≡ true → IsSoundLine width new
sound_lowest width times solved own new shared s o g e small = record {
  columns = ap (λ x. length x.factors) e ∙ length-map (mixed_all solved.divisor times own.factors solved.factors) (λ x. int_div x (pos shared))
      ∙ length-mixed_all solved.divisor times own.factors solved.factors (o.columns ∙ sym s.columns) ∙ o.columns;
  positive =
      let all = (combined times solved own).constant ∷ (combined times solved own).factors in
      let d = (greatest_divides (unsigned_abs (solved.divisor *ℤ own.divisor)) ((solved.divisor *ℤ own.divisor) ∷ all)).0 in
      let k : shared ∣ unsigned_abs (solved.divisor *ℤ own.divisor) = subst (λ n. n ∣ unsigned_abs (solved.divisor *ℤ own.divisor)) (sym g) d in
      let q = divided_positive (solved.divisor *ℤ own.divisor) shared (product_positive solved.divisor own.divisor s.positive o.positive) k in
      subst (λ x. pos 0 <ℤ x.divisor) (sym e) q;
  small = small;
}

pub abs_positive : (x : ℤ) → pos 0 <ℤ x → 0 < unsigned_abs x
abs_positive x h = omega (arith, ints)

-- ---- an equation divided
divided_small : (x : ℤ) (g : ℕ) → is_small x ≡ true → is_small (int_div x (pos g)) ≡ true
divided_small (pos n) g h = let k = div-le_self n g in grind arith
divided_small (negsuc n) g h = let k = div-le_self (suc n) g in grind arith

all_divided_small : (xs : List ℤ) (g : ℕ) → list_all is_small xs ≡ true → list_all is_small (map (λ x. int_div x (pos g)) xs) ≡ true
all_divided_small [] g h = refl
all_divided_small (x ∷ xs) g h =
    and_both (is_small (int_div x (pos g))) (list_all is_small (map (λ y. int_div y (pos g)) xs)) (divided_small x g (and_left (is_small x) (list_all is_small xs) h)) (all_divided_small xs g (and_right (is_small x) (list_all is_small xs) h))

pub divided_fits : (g : ℕ) (e : Equation) → fits e ≡ true → fits (divided g e) ≡ true
divided_fits g e h = fits_from (divided g e) (divided_small e.divisor g (fits_divisor e h)) (divided_small e.constant g (fits_constant e h)) (all_divided_small e.factors g (fits_factors e h))

by_one : (x : ℤ) → int_div x (pos 1) ≡ x
by_one (pos n) = omega (arith, ints)
by_one (negsuc n) = omega (arith, ints)

all_by_one : (xs : List ℤ) → map (λ x. int_div x (pos 1)) xs ≡ xs
all_by_one [] = refl
all_by_one (x ∷ xs) = λ i. by_one x i ∷ all_by_one xs i

pub divided_by_one : (e : Equation) → divided 1 e ≡ e
divided_by_one e = λ i. record { variable = e.variable; divisor = by_one e.divisor i; constant = by_one e.constant i; factors = all_by_one e.factors i }

pub divided_is : (e : Equation) (g : ℕ) (x k : ℤ) (xs : List ℤ) → x ≡ int_div e.divisor (pos g) → k ≡ int_div e.constant (pos g)
    → xs ≡ map (λ y. int_div y (pos g)) e.factors
    → ◌≡◌ {A = Equation} (record { variable = e.variable; divisor = x; constant = k; factors = xs }) (divided g e)
divided_is e g x k xs p q r = λ i. record { variable = e.variable; divisor = p i; constant = q i; factors = r i }

-- ---- an equation whose numbers stay small
mixed_small : (s t o u : ℤ) (a b : ℕ) → unsigned_abs o ≤ a → unsigned_abs u ≤ b → unsigned_abs s * a + unsigned_abs t * b ≤ 2 ^ 62
    → is_small (mixed s t o u) ≡ true
mixed_small s t o u a b p q h =
    let r : unsigned_abs s ≤ unsigned_abs s = omega arith in
    let v : unsigned_abs t ≤ unsigned_abs t = omega arith in
    let j = mul-le-mul r p in
    let k = mul-le-mul v q in
    let all : unsigned_abs (mixed s t o u) ≤ 2 ^ 62 = omega (arith, abs_sum (s *ℤ o) (t *ℤ u), unsigned_abs-mul s o, unsigned_abs-mul t u, j, k, h) in
    grind arith

all_mixed_small : (s t : ℤ) (os us : List ℤ) (a b : ℕ) → All (λ x. unsigned_abs x ≤ a) os → All (λ x. unsigned_abs x ≤ b) us
    → unsigned_abs s * a + unsigned_abs t * b ≤ 2 ^ 62 → list_all is_small (mixed_all s t os us) ≡ true
all_mixed_small s t [] us a b p q h = refl
all_mixed_small s t (o ∷ os) [] a b p q h = refl
all_mixed_small s t (o ∷ os) (u ∷ us) a b p q h =
    and_both (is_small (mixed s t o u)) (list_all is_small (mixed_all s t os us)) (mixed_small s t o u a b (p 0 o (omega arith)) (q 0 u (omega arith)) h)
    (all_mixed_small s t os us a b (λ k d r. p (suc k) d (omega arith)) (λ k d r. q (suc k) d (omega arith)) h)

pub combined_fits : (times : ℤ) (solved e : Equation) (a b : ℕ) → unsigned_abs e.divisor ≤ a → unsigned_abs e.constant ≤ a
    → All (λ x. unsigned_abs x ≤ a) e.factors
    → unsigned_abs solved.constant ≤ b → All (λ x. unsigned_abs x ≤ b) solved.factors
    → unsigned_abs solved.divisor * a + unsigned_abs times * b ≤ 2 ^ 62 → fits (combined times solved e) ≡ true
combined_fits times solved e a b p q r v w h =
    let n : pos 0 ≡ times *ℤ pos 0 = omega (arith, ints) in
    let one : mixed solved.divisor times e.divisor (pos 0) ≡ solved.divisor *ℤ e.divisor = omega (arith, ints, n) in
    fits_from (combined times solved e)
    (subst (λ x. is_small x ≡ true) one (mixed_small solved.divisor times e.divisor (pos 0) a b p (omega arith) h))
    (mixed_small solved.divisor times e.constant solved.constant a b q v h)
    (all_mixed_small solved.divisor times e.factors solved.factors a b r w h)

pub plainly_combined : (times : ℤ) (solved e : Equation) (x k : ℤ) (xs : List ℤ) → x ≡ solved.divisor *ℤ e.divisor
    → k ≡ mixed solved.divisor times e.constant solved.constant → xs ≡ mixed_all solved.divisor times e.factors solved.factors
    → ◌≡◌ {A = Equation} (record { variable = e.variable; divisor = x; constant = k; factors = xs }) (combined times solved e)
plainly_combined times solved e x k xs p q r = λ i. record { variable = e.variable; divisor = p i; constant = q i; factors = r i }

-- ---- results
pub on_ok : {A B : Type 0} {P Q : Type 0} (r : Result A B) → (P → Q) → OnOk r P → OnOk r Q
on_ok (Ok x) f h = f h
on_ok (Err x) f h = tt

pub on_ok_both : {A B : Type 0} {P Q R : Type 0} (r : Result A B) → (P → Q → R) → OnOk r P → OnOk r Q → OnOk r R
on_ok_both (Ok x) f p q = f p q
on_ok_both (Err x) f p q = tt

pub on_ok_match : {A B : Type 0} {P Q R : Type 0} (S : Type 0) (r : Result A B) → (P → Q → R) → OnOk r P → MatchResult r (λ _. Q) (λ _. S) → OnOk r R
on_ok_match S (Ok x) f p q = f p q
on_ok_match S (Err x) f p q = tt

pub on_err_match : {A B : Type 0} {Q S : Type 0} (P : Type 0) (r : Result A B) → (S → Q) → MatchResult r (λ _. P) (λ _. S) → OnErr r Q
on_err_match P (Ok x) f h = tt
on_err_match P (Err x) f h = f h

pub match_both : {A B : Type 0} {P Q R S : Type 0} (r : Result A B) → (P → R) → (Q → S) → MatchResult r (λ _. P) (λ _. Q) → MatchResult r (λ _. R) (λ _. S)
match_both (Ok x) f g h = f h
match_both (Err x) f g h = g h

pub zero_or_not : (place : ℕ) (solved e : Equation) → (factor_at place e ≡ pos 0 → ⊥)
    → put_in place solved e ≡ divided (common_divisor (solved.divisor *ℤ (without place e).divisor) ((combined (factor_at place e) solved (without place e)).constant ∷ (combined (factor_at place e) solved (without place e)).factors)) (combined (factor_at place e) solved (without place e))
zero_or_not place solved e other =
    ap (λ b. cond b e (divided (common_divisor (solved.divisor *ℤ (without place e).divisor) ((combined (factor_at place e) solved (without place e)).constant ∷ (combined (factor_at place e) solved (without place e)).factors)) (combined (factor_at place e) solved (without place e)))) (not_zero (factor_at place e) other)
  where
    not_zero : (x : ℤ) → (x ≡ pos 0 → ⊥) → nat_eq (unsigned_abs x) 0 ≡ false
    not_zero (pos zero) h = absurd (h refl)
    not_zero (pos (suc n)) h = grind arith
    not_zero (negsuc n) h = grind arith

-- ---- equations, number by number
pub solved_is : (place entering : ℕ) (e : Equation) (x k y : ℤ) (xs : List ℤ) → x ≡ factor_at place e → k ≡ neg_ℤ e.constant → y ≡ e.divisor
    → xs ≡ map neg_ℤ e.factors
    → ◌≡◌ {A = Equation} (record { variable = entering; divisor = x; constant = k; factors = set xs place y }) (solved_for place entering e)
solved_is place entering e x k y xs p q s r = λ i. record { variable = entering; divisor = p i; constant = q i; factors = set (r i) place (s i) }

pub combined_is : (times : ℤ) (solved e : Equation) (shared : ℕ) (x k : ℤ) (xs : List ℤ) → x ≡ int_div (solved.divisor *ℤ e.divisor) (pos shared)
    → k ≡ int_div (combined times solved e).constant (pos shared) → xs ≡ map (λ y. int_div y (pos shared)) (mixed_all solved.divisor times e.factors solved.factors)
    → ◌≡◌ {A = Equation} (record { variable = e.variable; divisor = x; constant = k; factors = xs }) (divided shared (combined times solved e))
combined_is times solved e shared x k xs p q r = λ i. record { variable = e.variable; divisor = p i; constant = q i; factors = r i }

-- ---- the leaving line
module _ (width place entering i : ℕ) (lines : List Line) (read : Line) (new : Equation) (all : All (λ line. IsSoundLine width (plain_line line)) lines)
    (inside : i < length lines) (is : read ≡ get_or lines i read) (factor : pos 0 <ℤ factor_at place (get_or (map plain_line lines) i no_line))
    (solved : new ≡ solved_for place entering (plain_line read)) where
  pub leaving_sound : IsSoundLine width new
  leaving_sound =
      let own = subst (λ l. IsSoundLine width (plain_line l)) (sym is) (all i read inside) in
      let above = subst (λ e. pos 0 <ℤ factor_at place e) (get_or-map plain_line lines i read no_line inside) factor in
      let positive = subst (λ l. pos 0 <ℤ factor_at place (plain_line l)) (sym is) above in
      subst (IsSoundLine width) (sym solved) (sound_solved width place entering (plain_line read) own positive)

  pub leaving_sound_own : IsSoundLine (length new.factors) new
  leaving_sound_own = subst (λ w. IsSoundLine w new) (sym leaving_sound.columns) leaving_sound

  pub others_sound : All (λ line. IsSoundLine (length new.factors) (plain_line line)) lines
  others_sound = subst (λ w. All (λ line. IsSoundLine w (plain_line line)) lines) (sym leaving_sound.columns) all

-- a sound tableau fits
pub lines_fit : (width : ℕ) (lines : List Line) → All (λ line. IsSoundLine width (plain_line line)) lines → list_all fits (map plain_line lines) ≡ true
lines_fit width [] h = refl
lines_fit width (l ∷ ls) h =
    and_both (fits (plain_line l)) (list_all fits (map plain_line ls)) (h 0 l (omega arith)).small (lines_fit width ls (λ k d p. h (suc k) d (omega arith)))

pub tableau_fits : (t : Tableau) → IsSoundTableau t → all_fit (plain_tableau t) ≡ true
tableau_fits t s = and_both (fits (plain_line t.cost)) (list_all fits (map plain_line t.lines.items)) s.cost.small (lines_fit (length t.columns.items) t.lines.items s.lines)
