-- Lowest terms: at the start, and after each pivot.
use Rattle.std.proofs.Common.{◌≡◌, ℕ, suc, zero, ◌*◌, ◌/◌, ◌<◌, ◌≤◌, ℤ, pos, negsuc, List, [], ◌∷◌, map, length, set, get_or, Bool, true, false, cond, nat_eq, arith, sym, refl, subst, unsigned_abs, ◌⊎◌, inl, inr}
use Rattle.std.specs.Prelude.{neg_ℤ, int_div, ◌<ℤ◌}
use Rattle.std.proofs.lemmas.Int.{ints}
use Rattle.std.proofs.lemmas.List.{length-map, get_or-map}
use Rattle.std.proofs.lemmas.Nat.Gcd.{le_of_dvd}
use native.Mathlib.Nat.{eq-one_of_dvd-one, mul-dvd-mul_left, mul-div_cancel', pos_of_dvd_of_pos}
use Prim.Native.Nat.{◌∣◌}
use Rattle.dual_simplex.specs.Division.{divides_all, greatest_up_to, DividesAll}
use Rattle.dual_simplex.specs.Equation.{Equation, factor_at, solved_for, without, combined, lowest, put_in}
use Rattle.dual_simplex.specs.Tableau.{Tableau, renewed, no_line}
use Rattle.dual_simplex.specs.Systems.{Inequality, Inequalities, slack_line, slack_lines, first_tableau}
use Rattle.dual_simplex.specs.Reduced.{IsReduced, AllReduced, StaysReduced}
use Rattle.dual_simplex.proofs.Divisors.{to_test}
use Rattle.dual_simplex.proofs.Sound.{greatest_divides, product_positive, divided_positive}
use Rattle.dual_simplex.proofs.Meaning.{greatest_positive}

abs_neg : (x : ℤ) → unsigned_abs (neg_ℤ x) ≡ unsigned_abs x
abs_neg (pos zero) = refl
abs_neg (pos (suc n)) = refl
abs_neg (negsuc n) = refl

abs_divided : (x : ℤ) (g : ℕ) → unsigned_abs (int_div x (pos g)) ≡ unsigned_abs x / g
abs_divided (pos n) g = refl
abs_divided (negsuc n) g = abs_neg (pos (suc n / g))

-- ---- the greatest common divisor is the greatest
greatest_most_by : (b : Bool) (n : ℕ) (xs : List ℤ) (k : ℕ) → divides_all (suc n) xs ≡ b → k ≤ suc n → DividesAll k xs → (k ≤ n → k ≤ greatest_up_to n xs)
    → k ≤ cond b (suc n) (greatest_up_to n xs)
greatest_most_by true n xs k e p d ih = p
greatest_most_by false n xs k e p d ih = by (last k (suc n))
  where
    last : (a b : ℕ) → (a ≡ b) ⊎ (a ≡ b → ⊥)
    last a b = grind arith

    by : (k ≡ suc n) ⊎ (k ≡ suc n → ⊥) → k ≤ greatest_up_to n xs
    by (inl same) = let t : divides_all (suc n) xs ≡ true = subst (λ m. divides_all m xs ≡ true) same (to_test k xs d) in absurd cc
    by (inr other) = ih (below p other)
      where
        below : k ≤ suc n → (k ≡ suc n → ⊥) → k ≤ n
        below a b = grind arith

greatest_most : (n : ℕ) (xs : List ℤ) (k : ℕ) → k ≤ n → DividesAll k xs → k ≤ greatest_up_to n xs
greatest_most zero xs k p d = omega arith
greatest_most (suc n) xs k p d = greatest_most_by (divides_all (suc n) xs) n xs k refl p d (λ q. greatest_most n xs k q d)

times_divides : (g h : ℕ) (x : ℤ) → g ∣ unsigned_abs x → h ∣ unsigned_abs (int_div x (pos g)) → (g * h) ∣ unsigned_abs x
times_divides g h x d e =
    let k : (g * h) ∣ (g * (unsigned_abs x / g)) = mul-dvd-mul_left h g (subst (λ n. h ∣ n) (abs_divided x g) e) in
    subst (λ n. (g * h) ∣ n) (mul-div_cancel' g d) k

times_divides_all : (g h : ℕ) (xs : List ℤ) → DividesAll g xs → DividesAll h (map (λ x. int_div x (pos g)) xs) → DividesAll (g * h) xs
times_divides_all g h [] d e = tt
times_divides_all g h (x ∷ xs) d e = (times_divides g h x d.0 e.0, times_divides_all g h xs d.1 e.1)

at_most_one : (g h : ℕ) → 0 < g → 0 < h → g * h ≤ g → h ≡ 1
at_most_one g zero p q r = absurd (omega arith)
at_most_one g (suc zero) p q r = refl
at_most_one g (suc (suc h)) p q r = absurd (omega arith)

pub lowest_reduced : (e : Equation) → pos 0 <ℤ e.divisor → IsReduced (lowest e)
lowest_reduced e p =
    let n = unsigned_abs e.divisor in
    let xs = e.divisor ∷ e.constant ∷ e.factors in
    let g = greatest_up_to n xs in
    let d = greatest_divides n xs in
    let some : 0 < n = omega (arith, ints) in
    let positive = divided_positive e.divisor g p d.0 in
    record {
      positive = positive;
      lowest = λ h k.
          let all = times_divides_all g h xs d k in
          let least = greatest_most n xs (g * h) (le_of_dvd some all.0) all in
          let left : 0 < unsigned_abs (int_div e.divisor (pos g)) = omega (arith, ints) in
          at_most_one g h (greatest_positive n xs) (pos_of_dvd_of_pos k.0 left) least;
    }

-- ---- the solved equation has the same numbers, but for signs
divides_negated : (h : ℕ) (xs : List ℤ) → DividesAll h (map neg_ℤ xs) → DividesAll h xs
divides_negated h [] d = tt
divides_negated h (x ∷ xs) d = (subst (λ n. h ∣ n) (abs_neg x) d.0, divides_negated h xs d.1)

divides_traded : (h : ℕ) (xs : List ℤ) (place : ℕ) (own : ℤ) → place < length xs → h ∣ unsigned_abs (get_or xs place (pos 0))
    → DividesAll h (set (map neg_ℤ xs) place own)
    → (h ∣ unsigned_abs own) × DividesAll h xs
divides_traded h [] place own p k d = absurd (omega arith)
divides_traded h (x ∷ xs) zero own p k d = (d.0, (k, divides_negated h xs d.1))
divides_traded h (x ∷ xs) (suc place) own p k d =
    let r = divides_traded h xs place own (omega arith) k d.1 in
    (r.0, (subst (λ n. h ∣ n) (abs_neg x) d.0, r.1))

pub solved_reduced : (place entering : ℕ) (e : Equation) → place < length e.factors → pos 0 <ℤ factor_at place e → IsReduced e
    → IsReduced (solved_for place entering e)
solved_reduced place entering e p q r = record {
  positive = q;
  lowest = λ h k.
      let t = divides_traded h e.factors place e.divisor p k.0 k.1.1 in
      r.lowest h (t.0, (subst (λ n. h ∣ n) (abs_neg e.constant) k.1.0, t.1));
}

put_in_reduced : (place : ℕ) (s e : Equation) → pos 0 <ℤ s.divisor → IsReduced e → IsReduced (put_in place s e)
put_in_reduced place s e p r = by (nat_eq (unsigned_abs (factor_at place e)) 0)
  where
    by : (b : Bool) → IsReduced (cond b e (lowest (combined (factor_at place e) s (without place e))))
    by true = r
    by false = lowest_reduced (combined (factor_at place e) s (without place e)) (product_positive s.divisor e.divisor p r.positive)

renewed_reduced : (leaver place : ℕ) (s e : Equation) → IsReduced s → IsReduced e → IsReduced (renewed leaver place s e)
renewed_reduced leaver place s e a r = by (nat_eq e.variable leaver)
  where
    by : (b : Bool) → IsReduced (cond b s (put_in place s e))
    by true = a
    by false = put_in_reduced place s e a.positive r

-- ---- tableaux
pub stays_reduced : (t : Tableau) → StaysReduced t
stays_reduced t i place a p q f =
    let line = get_or t.lines i no_line in
    let s = solved_for place (get_or t.columns place 0) line in
    let r = solved_reduced place (get_or t.columns place 0) line q f (a.lines i p) in
    record {
      lines = λ j k.
          let inside : j < length t.lines = subst (λ n. j < n) (length-map t.lines _) k in
          subst IsReduced (sym (get_or-map (renewed line.variable place s) t.lines j no_line no_line inside)) (renewed_reduced line.variable place s (get_or t.lines j no_line) r (a.lines j inside));
      cost = put_in_reduced place s t.cost r.positive a.cost;
    }

one_reduced : (e : Equation) → e.divisor ≡ pos 1 → IsReduced e
one_reduced e d = record {
  positive = subst (λ x. pos 0 <ℤ x) (sym d) (omega (arith, ints));
  lowest = λ h k. eq-one_of_dvd-one (subst (λ x. h ∣ unsigned_abs x) d k.0);
}

slacks_reduced : (n variable : ℕ) (rows : List Inequality) (i : ℕ) → i < length (slack_lines n variable rows)
    → IsReduced (get_or (slack_lines n variable rows) i no_line)
slacks_reduced n variable [] i p = absurd (omega arith)
slacks_reduced n variable (row ∷ rows) zero p = one_reduced (slack_line n variable row) refl
slacks_reduced n variable (row ∷ rows) (suc i) p = slacks_reduced n (suc variable) rows i (omega arith)

pub first_reduced : (system : Inequalities) → AllReduced (first_tableau system)
first_reduced system = record {
  lines = slacks_reduced system.unknowns system.unknowns system.rows;
  cost = one_reduced (first_tableau system).cost refl;
}
