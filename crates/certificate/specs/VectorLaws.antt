-- Laws, for the proofs of this crate and of those above it.
-- The words of annotations, and what is read of them.
use Rattle.std.proofs.Common.{◌≡◌, ℕ, ◌<◌, ◌≤◌, true, List, [], ◌∷◌, ◌++◌, length, map, Some, refl, sym, ap, ◌∙◌, subst, arith}
use Rattle.std.specs.Prelude.{◌==◌, ◌&&◌, not, nat_lt}
use Rattle.std.specs.Option.{option_map}
use Rattle.std.specs.List.{AllByRecursion}
use Rattle.std.proofs.lemmas.Bool.Decides.{nat_tests}
use Rattle.camelot_values.specs.Lists.{Ascend}
use Rattle.annotations.specs.Vectors.{Vector, IsVector}
use Rattle.text_lines.specs.Numbers.{number}
use Rattle.certificate.specs.Text.{pair_word, vector_words}
use Rattle.certificate.specs.Certificates.{IsNotZero}
use Rattle.certificate.specs.Reading.{is_before, pair_of, vector_from, vector_of}
use Rattle.text_lines.specs.Cuts.{and_then, only_if, upto, from, behind, number_of}
use Rattle.text_lines.specs.OptionLaws.{and_parts, and_both, then_some, then_is, only_some, only_is, map_some, map_is, some_same}
use Rattle.text_lines.specs.CutLaws.{upto_cut, from_cut, cut_parts, from_first}
use Rattle.text_lines.specs.NumberLaws.{number_read, number_found, number_free}
use Rattle.certificate.specs.OrderLaws.{before_is, before_first}

-- pairs behind a constructor that is written so
abbrev pub Behind : List ℕ → Vector → Type 0
Behind prev [] = Unit {0}
Behind prev (p ∷ ps) = (is_before prev (number p.0) ≡ true) × (1 ≤ p.1) × Behind (number p.0) ps

pub not_zero : (n : ℕ) → 1 ≤ n → not (n == 0) ≡ true
not_zero n h = grind (arith, nat_tests, h)

pub some_units : (n : ℕ) → not (n == 0) ≡ true → 1 ≤ n
some_units n h = grind (arith, nat_tests, h)

-- ---- one pair

pub pair_read : (prev : List ℕ) (c u : ℕ) → is_before prev (number c) ≡ true → 1 ≤ u → pair_of prev (number c) (number u) ≡ Some (c, u)
unfolding pair_of
pair_read prev c u h k =
    then_is (number_of (number c)) (λ a. and_then (number_of (number u)) (λ b. only_if (is_before prev (number c) && not (b == 0)) (Some (a, b)))) c (Some (c, u)) (number_read c)
    (then_is (number_of (number u)) (λ b. only_if (is_before prev (number c) && not (b == 0)) (Some (c, b))) u (Some (c, u)) (number_read u)
    (only_is (is_before prev (number c) && not (u == 0)) (Some (c, u)) (Some (c, u)) (and_both (is_before prev (number c)) (not (u == 0)) h (not_zero u k)) refl))

pub record PairFound (prev con units : List ℕ) (p : ℕ × ℕ) : Type 0 where
  pub con_is : con ≡ number p.0
  pub units_is : units ≡ number p.1
  pub order : is_before prev con ≡ true
  pub some : 1 ≤ p.1

pub pair_found : (prev con units : List ℕ) (p : ℕ × ℕ) → pair_of prev con units ≡ Some p → PairFound prev con units p
unfolding pair_of
pair_found prev con units p e =
    let (c, c_is, rest) = then_some (number_of con) (λ c. and_then (number_of units) (λ u. only_if (is_before prev con && not (u == 0)) (Some (c, u)))) p e in
    let (u, u_is, last) = then_some (number_of units) (λ u. only_if (is_before prev con && not (u == 0)) (Some (c, u))) p rest in
    let (test, same) = only_some (is_before prev con && not (u == 0)) (Some (c, u)) p last in
    let q : (c, u) ≡ p = some_same (c, u) p same in
    let parts = and_parts (is_before prev con) (not (u == 0)) test in
    record {
      con_is = number_found con c c_is ∙ ap (λ (r : ℕ × ℕ). number r.0) q;
      units_is = number_found units u u_is ∙ ap (λ (r : ℕ × ℕ). number r.1) q;
      order = parts.0;
      some = subst (λ (r : ℕ × ℕ). 1 ≤ r.1) q (some_units u parts.1);
    }

word_con : (p : ℕ × ℕ) → upto 61 (pair_word p) ≡ number p.0
word_con p = upto_cut 61 (number p.0) (number p.1) (number_free 61 p.0 refl)

word_units : (p : ℕ × ℕ) → behind (from 61 (pair_word p)) ≡ number p.1
word_units p = ap behind (from_cut 61 (number p.0) (number p.1) (number_free 61 p.0 refl))

nothing_no_number : (n : ℕ) → [] ≡ number n → ⊥
unfolding number_of
nothing_no_number n e = let w : number_of [] ≡ Some n = ap number_of e ∙ number_read n in absurd cc

word_is : (w : List ℕ) (c u : ℕ) → upto 61 w ≡ number c → behind (from 61 w) ≡ number u → w ≡ pair_word (c, u)
word_is w c u e f = cut_parts 61 w ∙ ap (λ l. l ++ from 61 w) e ∙ ap (λ l. number c ++ l) (rest (from 61 w) refl f)
  where
    rest : (r : List ℕ) → from 61 w ≡ r → behind r ≡ number u → r ≡ 61 ∷ number u
    rest [] g h = absurd (nothing_no_number u h)
    rest (b ∷ r) g h = ap (λ l. b ∷ l) h ∙ ap (λ x. x ∷ number u) (from_first 61 b w r g)

-- ---- pairs

pub vector_read : (prev : List ℕ) (v : Vector) → Behind prev v → vector_from prev (vector_words v) ≡ Some v
unfolding vector_from
vector_read prev [] h = refl
vector_read prev (p ∷ ps) h =
    let w : pair_of prev (upto 61 (pair_word p)) (behind (from 61 (pair_word p))) ≡ Some p =
    ap (λ c. pair_of prev c (behind (from 61 (pair_word p)))) (word_con p) ∙ ap (pair_of prev (number p.0)) (word_units p) ∙ pair_read prev p.0 p.1 h.0 h.1 in
    let r : vector_from (upto 61 (pair_word p)) (vector_words ps) ≡ Some ps = ap (λ c. vector_from c (vector_words ps)) (word_con p) ∙ vector_read (number p.0) ps h.2 in
    then_is (pair_of prev (upto 61 (pair_word p)) (behind (from 61 (pair_word p)))) (λ q. option_map (λ v. q ∷ v) (vector_from (upto 61 (pair_word p)) (vector_words ps))) p (Some (p ∷ ps)) w
    (map_is (λ v. p ∷ v) (vector_from (upto 61 (pair_word p)) (vector_words ps)) ps r)

pub record VectorFound (prev : List ℕ) (ws : List (List ℕ)) (v : Vector) : Type 0 where
  pub is : ws ≡ vector_words v
  pub behind : Behind prev v

pub vector_found : (prev : List ℕ) (ws : List (List ℕ)) (v : Vector) → vector_from prev ws ≡ Some v → VectorFound prev ws v
unfolding vector_from
vector_found prev [] v e = let s : [] ≡ v = some_same [] v e in record { is = ap vector_words s; behind = subst (Behind prev) s tt }
vector_found prev (w ∷ ws) v e =
    let (p, p_is, rest) = then_some (pair_of prev (upto 61 w) (behind (from 61 w))) (λ p. option_map (λ v. p ∷ v) (vector_from (upto 61 w) ws)) v e in
    let (ps, ps_is, same) = map_some (λ v. p ∷ v) (vector_from (upto 61 w) ws) v rest in
    let d = pair_found prev (upto 61 w) (behind (from 61 w)) p p_is in
    let r = vector_found (upto 61 w) ws ps ps_is in
    record {
      is = ap (λ l. l ∷ ws) (word_is w p.0 p.1 d.con_is d.units_is) ∙ ap (λ l. pair_word p ∷ l) r.is ∙ ap vector_words (sym same);
      behind = subst (Behind prev) (sym same) (subst (λ c. is_before prev c ≡ true) d.con_is d.order, d.some, subst (λ c. Behind c ps) d.con_is r.behind);
    }

-- ---- annotations

number_order : (m n : ℕ) → is_before (number m) (number n) ≡ nat_lt m n
number_order m n = before_is (number m) (number n) m n (number_read m) (number_read n)

less_order : (m n : ℕ) → m < n → is_before (number m) (number n) ≡ true
less_order m n h = number_order m n ∙ (let t : nat_lt m n ≡ true = grind (arith, nat_tests, h) in t)

order_less : (m n : ℕ) → is_before (number m) (number n) ≡ true → m < n
order_less m n h = let t : nat_lt m n ≡ true = sym (number_order m n) ∙ h in grind (arith, nat_tests, t)

ascend_behind : (c : ℕ) (v : Vector) → Ascend (c ∷ map (λ p. p.0) v) → AllByRecursion (λ p. 1 ≤ p.1) v → Behind (number c) v
ascend_behind c [] h k = tt
ascend_behind c (p ∷ ps) h k = (less_order c p.0 h.0, k.0, ascend_behind p.0 ps h.1 k.1)

vector_behind : (v : Vector) → IsVector v → Behind [] v
vector_behind [] h = tt
vector_behind (p ∷ ps) h = (before_first (number p.0) p.0 (number_read p.0), h.some.0, ascend_behind p.0 ps h.ascending h.some.1)

behind_ascend : (c : ℕ) (v : Vector) → Behind (number c) v → Ascend (c ∷ map (λ p. p.0) v) × AllByRecursion (λ p. 1 ≤ p.1) v
behind_ascend c [] h = (tt, tt)
behind_ascend c (p ∷ ps) h = let r = behind_ascend p.0 ps h.2 in ((order_less c p.0 h.0, r.0), (h.1, r.1))

pub behind_vector : (v : Vector) → Behind [] v → IsVector v
behind_vector [] h = record { ascending = tt; some = tt }
behind_vector (p ∷ ps) h = let r = behind_ascend p.0 ps h.2 in record { ascending = r.0; some = (h.1, r.1) }

pub some_read : (v : Vector) → IsNotZero v → vector_of (vector_words v) ≡ Some v
unfolding vector_of
some_read [] h = absurd (none h.some)
  where
    none : 1 ≤ 0 → ⊥
    none k = omega arith
some_read (p ∷ ps) h = vector_read [] (p ∷ ps) (vector_behind (p ∷ ps) h.form)

pub record SomeFound (ws : List (List ℕ)) (v : Vector) : Type 0 where
  pub is : ws ≡ vector_words v
  pub form : IsNotZero v

pub some_found : (ws : List (List ℕ)) (v : Vector) → vector_of ws ≡ Some v → SomeFound ws v
unfolding vector_of
some_found [] v e = absurd cc
some_found (w ∷ ws) v e = let r = vector_found [] (w ∷ ws) v e in record { is = r.is; form = record { form = behind_vector v r.behind; some = not_empty v r.is } }
  where
    not_empty : (v : Vector) → w ∷ ws ≡ vector_words v → 1 ≤ length v
    not_empty [] e = absurd cc
    not_empty (p ∷ ps) e = omega arith
