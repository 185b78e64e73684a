-- What an equation means at a point, and that a pivot changes no meaning.
use Rattle.std.proofs.Common.{◌≡◌, ℕ, suc, zero, ◌/◌, ◌<◌, ℤ, pos, negsuc, ◌+ℤ◌, ◌*ℤ◌, List, [], ◌∷◌, map, length, set, get_or, Bool, true, false, cond, nat_eq, arith, ap, sym, ◌∙◌, refl, unsigned_abs}
use Rattle.std.specs.Prelude.{neg_ℤ, int_div, ◌<ℤ◌}
use Rattle.std.proofs.lemmas.Int.{ints}
use Rattle.std.proofs.lemmas.List.{length-map, length-set, set-get_or, get_or-map}
use native.Mathlib.Nat.{mul-div_cancel', mul_comm}
use Prim.Native.Nat.{◌∣◌}
use Rattle.dual_simplex.specs.Division.{divides_all, greatest_up_to, common_divisor, DividesAll}
use Rattle.dual_simplex.specs.Equation.{Equation, factor_at, solved_for, mixed_all, without, combined, lowest, put_in}
use Rattle.dual_simplex.proofs.Ring.{sums, distrib, distrib_right, times_comm, times_assoc, times_neg, zero_times, swap_times, mix_place, cancel}
use Rattle.dual_simplex.proofs.Sound.{greatest_divides}

-- the sum of two lists' products, place by place
abbrev pub dot : List ℤ → List ℤ → ℤ
dot (a ∷ fs) (x ∷ xs) = (a *ℤ x) +ℤ dot fs xs
dot fs xs = pos 0

pub mixed_dot : (s t : ℤ) (fs gs xs : List ℤ) → length fs ≡ length xs → length gs ≡ length xs
    → dot (mixed_all s t fs gs) xs ≡ (s *ℤ dot fs xs) +ℤ (t *ℤ dot gs xs)
mixed_dot s t [] [] [] p q = omega (arith, ints)
mixed_dot s t [] [] (x ∷ xs) p q = absurd (omega (arith, p))
mixed_dot s t [] (b ∷ gs) [] p q = absurd (omega (arith, q))
mixed_dot s t [] (b ∷ gs) (x ∷ xs) p q = absurd (omega (arith, p))
mixed_dot s t (a ∷ fs) gs [] p q = absurd (omega (arith, p))
mixed_dot s t (a ∷ fs) [] (x ∷ xs) p q = absurd (omega (arith, q))
mixed_dot s t (a ∷ fs) (b ∷ gs) (x ∷ xs) p q =
    ap (λ r. (((s *ℤ a) +ℤ (t *ℤ b)) *ℤ x) +ℤ r) (mixed_dot s t fs gs xs (omega (arith, p)) (omega (arith, q)))
    ∙ mix_place s t a b x (dot fs xs) (dot gs xs)

pub neg_dot : (fs xs : List ℤ) → dot (map neg_ℤ fs) xs ≡ neg_ℤ (dot fs xs)
neg_dot [] xs = refl
neg_dot (a ∷ fs) [] = refl
neg_dot (a ∷ fs) (x ∷ xs) = let ih = neg_dot fs xs in let e = times_neg a x in omega (arith, sums)

pub set_dot : (fs xs : List ℤ) (i : ℕ) (v y : ℤ) → i < length fs → i < length xs
    → dot (set fs i v) (set xs i y) +ℤ (get_or fs i (pos 0) *ℤ get_or xs i (pos 0)) ≡ dot fs xs +ℤ (v *ℤ y)
set_dot [] xs i v y p q = absurd (omega arith)
set_dot (a ∷ fs) [] i v y p q = absurd (omega arith)
set_dot (a ∷ fs) (x ∷ xs) zero v y p q = omega (arith, sums)
set_dot (a ∷ fs) (x ∷ xs) (suc i) v y p q = let ih = set_dot fs xs i v y (omega arith) (omega arith) in omega (arith, sums)

pub times_divided : (x : ℤ) (g : ℕ) → g ∣ unsigned_abs x → pos g *ℤ int_div x (pos g) ≡ x
times_divided (pos n) g d = ap pos (mul-div_cancel' g d)
times_divided (negsuc n) g d =
    times_comm (pos g) (neg_ℤ (pos (suc n / g))) ∙ times_neg (pos (suc n / g)) (pos g) ∙ ap (λ k. neg_ℤ (pos k)) (mul_comm (suc n / g) g ∙ mul-div_cancel' g d)

pub divided_dot : (g : ℕ) (fs xs : List ℤ) → DividesAll g fs → pos g *ℤ dot (map (λ x. int_div x (pos g)) fs) xs ≡ dot fs xs
divided_dot g [] xs d = omega (arith, ints)
divided_dot g (a ∷ fs) [] d = omega (arith, ints)
divided_dot g (a ∷ fs) (x ∷ xs) d =
    distrib (pos g) (int_div a (pos g) *ℤ x) (dot (map (λ y. int_div y (pos g)) fs) xs)
    ∙ ap (λ r. (pos g *ℤ (int_div a (pos g) *ℤ x)) +ℤ r) (divided_dot g fs xs d.1)
    ∙ ap (λ r. r +ℤ dot fs xs) (sym (times_assoc (pos g) (int_div a (pos g)) x) ∙ ap (λ r. r *ℤ x) (times_divided a g d.0))

-- ---- equations at a point: `xs` are the columns' values, and `unit` stands for 1
abbrev pub right : Equation → List ℤ → ℤ → ℤ
right e xs unit = (e.constant *ℤ unit) +ℤ dot e.factors xs

-- the equation holds where its variable is `v`
pub record Holds (e : Equation) (v : ℤ) (xs : List ℤ) (unit : ℤ) : Type 0 where
  pub is : e.divisor *ℤ v ≡ right e xs unit

module _ (place : ℕ) (xs : List ℤ) (unit v : ℤ) (inside : place < length xs) where
  solved_right : (entering : ℕ) (e : Equation) → length e.factors ≡ length xs
      → right (solved_for place entering e) (set xs place v) unit +ℤ right e xs unit ≡ (factor_at place e *ℤ get_or xs place (pos 0)) +ℤ (e.divisor *ℤ v)
  solved_right entering e w =
      let x = get_or xs place (pos 0) in
      let k = set_dot (map neg_ℤ e.factors) xs place e.divisor v (rw (length-map e.factors neg_ℤ) (omega (arith, w))) inside in
      let n = neg_dot e.factors xs in
      let a : get_or (map neg_ℤ e.factors) place (pos 0) ≡ neg_ℤ (factor_at place e) = get_or-map neg_ℤ e.factors place (pos 0) (pos 0) (omega (arith, w)) in
      let b = ap (λ y. y *ℤ x) a ∙ times_neg (factor_at place e) x in
      let c = times_neg e.constant unit in
      omega (arith, sums)

  -- solving for the column's variable
  pub solved_holds : (entering : ℕ) (e : Equation) → length e.factors ≡ length xs → Holds e v xs unit
      → Holds (solved_for place entering e) (get_or xs place (pos 0)) (set xs place v) unit
  solved_holds entering e w h = let k = solved_right entering e w in let i = h.is in record { is = omega (arith, sums) }

  pub solved_held : (entering : ℕ) (e : Equation) → length e.factors ≡ length xs
      → Holds (solved_for place entering e) (get_or xs place (pos 0)) (set xs place v) unit → Holds e v xs unit
  solved_held entering e w h = let k = solved_right entering e w in let i = h.is in record { is = omega (arith, sums) }

  module _ (s : Equation) (wide : length s.factors ≡ length xs) (solved : Holds s (get_or xs place (pos 0)) (set xs place v) unit) where
    combined_right : (e : Equation) → length e.factors ≡ length xs
        → right (combined (factor_at place e) s (without place e)) (set xs place v) unit ≡ s.divisor *ℤ right e xs unit
    combined_right e w =
        let x = get_or xs place (pos 0) in
        let f = factor_at place e in
        let ys = set xs place v in
        let m = dot (set e.factors place (pos 0)) ys in
        let len : length ys ≡ length xs = length-set xs place v in
        let a = mixed_dot s.divisor f (set e.factors place (pos 0)) s.factors ys (length-set e.factors place (pos 0) ∙ w ∙ sym len) (wide ∙ sym len) in
        let b = set_dot e.factors xs place (pos 0) v (omega (arith, w)) inside in
        let z = zero_times v in
        let c = distrib_right (s.divisor *ℤ e.constant) (f *ℤ s.constant) unit in
        let c1 = times_assoc s.divisor e.constant unit in
        let c2 = times_assoc f s.constant unit in
        let d = distrib f (s.constant *ℤ unit) (dot s.factors ys) in
        let i = ap (λ y. f *ℤ y) (sym solved.is) ∙ swap_times f s.divisor x in
        let j = distrib s.divisor (e.constant *ℤ unit) (dot e.factors xs) in
        let plain : dot e.factors xs ≡ m +ℤ (f *ℤ x) = omega (arith, sums) in
        let k = ap (λ y. s.divisor *ℤ y) plain ∙ distrib s.divisor m (f *ℤ x) in
        omega (arith, sums)

greatest_positive_by : (b : Bool) (n k : ℕ) → 0 < k → 0 < cond b (suc n) k
greatest_positive_by true n k h = omega arith
greatest_positive_by false n k h = h

pub greatest_positive : (n : ℕ) (xs : List ℤ) → 0 < greatest_up_to n xs
greatest_positive zero xs = omega arith
greatest_positive (suc n) xs = greatest_positive_by (divides_all (suc n) xs) n (greatest_up_to n xs) (greatest_positive n xs)

-- ---- lowest terms
module _ (e : Equation) (v : ℤ) (xs : List ℤ) (unit : ℤ) where
  shared : ℕ
  shared = common_divisor e.divisor (e.constant ∷ e.factors)

  shared_positive : pos 0 <ℤ pos shared
  unfolding shared
  shared_positive = let k = greatest_positive (unsigned_abs e.divisor) (e.divisor ∷ e.constant ∷ e.factors) in omega (arith, ints)

  lowest_left : pos shared *ℤ ((lowest e).divisor *ℤ v) ≡ e.divisor *ℤ v
  unfolding shared
  lowest_left =
      sym (times_assoc (pos shared) (lowest e).divisor v)
      ∙ ap (λ x. x *ℤ v) (times_divided e.divisor shared (greatest_divides (unsigned_abs e.divisor) (e.divisor ∷ e.constant ∷ e.factors)).0)

  lowest_right : pos shared *ℤ right (lowest e) xs unit ≡ right e xs unit
  unfolding shared
  lowest_right =
      let d = (greatest_divides (unsigned_abs e.divisor) (e.divisor ∷ e.constant ∷ e.factors)).1 in
      distrib (pos shared) ((lowest e).constant *ℤ unit) (dot (lowest e).factors xs)
      ∙ ap (λ r. (pos shared *ℤ ((lowest e).constant *ℤ unit)) +ℤ r) (divided_dot shared e.factors xs d.1)
      ∙ ap (λ r. r +ℤ dot e.factors xs) (sym (times_assoc (pos shared) (lowest e).constant unit) ∙ ap (λ r. r *ℤ unit) (times_divided e.constant shared d.0))

  pub lowest_holds : Holds e v xs unit → Holds (lowest e) v xs unit
  lowest_holds h = record { is = cancel (pos shared) ((lowest e).divisor *ℤ v) (right (lowest e) xs unit) shared_positive (lowest_left ∙ h.is ∙ sym lowest_right) }

  pub lowest_held : Holds (lowest e) v xs unit → Holds e v xs unit
  lowest_held h = record { is = sym lowest_left ∙ ap (λ x. pos shared *ℤ x) h.is ∙ lowest_right }

-- ---- put in
zero_from : (x : ℤ) → nat_eq (unsigned_abs x) 0 ≡ true → x ≡ pos 0
zero_from (pos zero) h = refl
zero_from (pos (suc n)) h = absurd (grind arith)
zero_from (negsuc n) h = absurd (grind arith)

module _ (place : ℕ) (xs : List ℤ) (unit v : ℤ) (inside : place < length xs) (s : Equation) (wide : length s.factors ≡ length xs)
    (positive : pos 0 <ℤ s.divisor) (solved : Holds s (get_or xs place (pos 0)) (set xs place v) unit) (e : Equation) (own : length e.factors ≡ length xs) (w : ℤ) where
  same_right : factor_at place e ≡ pos 0 → right e (set xs place v) unit ≡ right e xs unit
  same_right z =
      let f = factor_at place e in
      let k = set_dot e.factors xs place f v (omega (arith, own)) inside in
      let g = ap (λ gs. dot gs (set xs place v)) (set-get_or e.factors place (pos 0)) in
      let a = ap (λ y. y *ℤ get_or xs place (pos 0)) z ∙ zero_times (get_or xs place (pos 0)) in
      let b = ap (λ y. y *ℤ v) z ∙ zero_times v in
      omega (arith, sums)

  left_times : (s.divisor *ℤ e.divisor) *ℤ w ≡ s.divisor *ℤ (e.divisor *ℤ w)
  left_times = times_assoc s.divisor e.divisor w

  holds_by : (b : Bool) → nat_eq (unsigned_abs (factor_at place e)) 0 ≡ b → Holds e w xs unit
      → Holds (cond b e (lowest (combined (factor_at place e) s (without place e)))) w (set xs place v) unit
  holds_by true z h = record { is = h.is ∙ sym (same_right (zero_from (factor_at place e) z)) }
  holds_by false z h =
      lowest_holds (combined (factor_at place e) s (without place e)) w (set xs place v) unit
      (record { is = left_times ∙ ap (λ x. s.divisor *ℤ x) h.is ∙ sym (combined_right place xs unit v inside s wide solved e own) })

  held_by : (b : Bool) → nat_eq (unsigned_abs (factor_at place e)) 0 ≡ b
      → Holds (cond b e (lowest (combined (factor_at place e) s (without place e)))) w (set xs place v) unit → Holds e w xs unit
  held_by true z h = record { is = h.is ∙ same_right (zero_from (factor_at place e) z) }
  held_by false z h =
      let k = lowest_held (combined (factor_at place e) s (without place e)) w (set xs place v) unit h in
      record { is = cancel s.divisor (e.divisor *ℤ w) (right e xs unit) positive (sym left_times ∙ k.is ∙ combined_right place xs unit v inside s wide solved e own) }

  pub put_in_holds : Holds e w xs unit → Holds (put_in place s e) w (set xs place v) unit
  put_in_holds = holds_by (nat_eq (unsigned_abs (factor_at place e)) 0) refl

  pub put_in_held : Holds (put_in place s e) w (set xs place v) unit → Holds e w xs unit
  put_in_held = held_by (nat_eq (unsigned_abs (factor_at place e)) 0) refl
