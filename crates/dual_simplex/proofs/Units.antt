-- Units of fractions: the least common multiple of the denominators in lowest terms.
use Rattle.std.proofs.Common.{◌≡◌, ℕ, suc, zero, ◌+◌, ◌*◌, ◌/◌, ◌%◌, ◌<◌, ◌≤◌, ◌^◌, List, [], ◌∷◌, length, get_or, arith, ap, sym, ◌∙◌, refl, subst, Bool, true, false, ◌&&◌, nat_eq}
use Rattle.std.proofs.lemmas.Nat.Gcd.{dvd_refl, dvd_trans, le_of_dvd, dvd_of_mod-eq-zero, mod-eq-zero_of_dvd}
use native.Mathlib.Nat.{dvd-mul_left, div-mul_cancel, dvd_of_mul-dvd-mul_right, mul-dvd-mul, mul-dvd-mul_right, mul-dvd-mul_left, mul_comm, one-dvd}
use Prim.Native.Nat.{◌∣◌}
use Rattle.std.proofs.Common.{◌++◌, take, add-one, cond, ◌⊎◌, inl, inr}
use Rattle.std.specs.Prelude.{All, ⊤}
use Rattle.std.proofs.Math.Seq.{take-suc}
use Rattle.std.proofs.lemmas.List.{take_all}
use Rattle.dual_simplex.specs.declared.answer.Fraction.{Fraction}
use Rattle.dual_simplex.specs.Answer.{makes_whole, least_from, product_of, unit_of}
use Rattle.dual_simplex.specs.Multiples.{IsMultiple, NoMultiple, IsGreatestCommon}

-- a unit makes a fraction whole exactly where the denominator in lowest terms divides it
pub whole_to_denominator : (above below g v : ℕ) → 0 < g → IsGreatestCommon above below g → below ∣ (v * above) → (below / g) ∣ v
whole_to_denominator above below g v some s h =
    let k : below ∣ (v * g) = s.greatest below v h (dvd-mul_left below v) in
    dvd_of_mul-dvd-mul_right (below / g) some (subst (λ n. n ∣ (v * g)) (sym (div-mul_cancel g s.right)) k)

pub denominator_to_whole : (above below g v : ℕ) → IsGreatestCommon above below g → (below / g) ∣ v → below ∣ (v * above)
denominator_to_whole above below g v s h =
    let k : (below / g * g) ∣ (v * above) = mul-dvd-mul (below / g) g h s.left in
    subst (λ n. n ∣ (v * above)) (div-mul_cancel g s.right) k

-- the least common multiple
pub common_multiple_left : (a b g : ℕ) → IsGreatestCommon a b g → a ∣ (a / g * b)
common_multiple_left a b g s =
    let k : (a / g * g) ∣ (a / g * b) = mul-dvd-mul_left g (a / g) s.right in
    subst (λ n. n ∣ (a / g * b)) (div-mul_cancel g s.left) k

pub common_multiple_least : (a b g v : ℕ) → 0 < g → IsGreatestCommon a b g → a ∣ v → b ∣ v → (a / g * b) ∣ v
common_multiple_least a b g v some s p q =
    let l : (a * b) ∣ (v * a) = subst (λ n. n ∣ (v * a)) (mul_comm b a) (mul-dvd-mul_right b q a) in
    let r : (a * b) ∣ (v * b) = mul-dvd-mul_right a p b in
    let k : (a * b) ∣ (v * g) = s.greatest (a * b) v l r in
    let e : a * b ≡ a / g * b * g = omega (arith, ap (λ n. n * b) (div-mul_cancel g s.left)) in
    dvd_of_mul-dvd-mul_right (a / g * b) some (subst (λ n. n ∣ (v * g)) e k)

pub common_multiple_right : (a b g : ℕ) → b ∣ (a / g * b)
common_multiple_right a b g = dvd-mul_left b (a / g)

factor_positive : (a b n : ℕ) → a * b ≡ n → 0 < n → 0 < a
factor_positive zero b n e p = absurd (omega arith)
factor_positive (suc a) b n e p = omega arith

product_positive : (a b : ℕ) → 0 < a → 0 < b → 0 < a * b
product_positive zero b p q = absurd (omega arith)
product_positive (suc a) zero p q = absurd (omega arith)
product_positive (suc a) (suc b) p q = omega arith

pub multiple_is : (unit : ℕ) (f : Fraction) (g h : ℕ) → 0 < unit → 0 < f.below → 0 < g → 0 < h → IsGreatestCommon f.above f.below g
    → IsGreatestCommon unit (f.below / g) h → IsMultiple unit f (unit / h * (f.below / g))
multiple_is unit f g h up bp gp hp s t = record {
  positive = product_positive (unit / h) (f.below / g)
      (factor_positive (unit / h) h unit (div-mul_cancel h t.left) up)
      (factor_positive (f.below / g) g f.below (div-mul_cancel g s.right) bp);
  divides = λ v d. (
    dvd_trans unit (common_multiple_left unit (f.below / g) h t) d,
    denominator_to_whole f.above f.below g v s (dvd_trans (f.below / g) (common_multiple_right unit (f.below / g) h) d),
  );
  least = λ v p q. common_multiple_least unit (f.below / g) h v hp t p (whole_to_denominator f.above f.below g v gp s q);
}

pub none_is : (unit : ℕ) (f : Fraction) (next : ℕ) → IsMultiple unit f next → 2 ^ 62 < next → NoMultiple unit f
none_is unit f next m large = record { large = λ v some p q. let k : next ≤ v = le_of_dvd some (m.least v p q) in omega arith }

-- ---- the least unit of a list
abbrev pub WholeAll : ℕ → List Fraction → Type 0
WholeAll v [] = ⊤
WholeAll v (f ∷ fs) = (f.below ∣ (v * f.above)) × WholeAll v fs

pub record IsUnit (fs : List Fraction) (unit : ℕ) : Type 0 where
  pub positive : 0 < unit
  pub divides : (v : ℕ) → unit ∣ v → WholeAll v fs
  pub least : (v : ℕ) → WholeAll v fs → unit ∣ v

pub unit_none : IsUnit [] 1
unit_none = record { positive = omega arith; divides = λ v d. tt; least = λ v w. one-dvd v }

whole_push : (v : ℕ) (fs : List Fraction) (f : Fraction) → WholeAll v fs → f.below ∣ (v * f.above) → WholeAll v (fs ++ f ∷ [])
whole_push v [] f w d = (d, tt)
whole_push v (x ∷ xs) f w d = (w.0, whole_push v xs f w.1 d)

whole_front : (v : ℕ) (fs gs : List Fraction) → WholeAll v (fs ++ gs) → WholeAll v fs
whole_front v [] gs w = tt
whole_front v (x ∷ xs) gs w = (w.0, whole_front v xs gs w.1)

whole_rest : (v : ℕ) (fs gs : List Fraction) → WholeAll v (fs ++ gs) → WholeAll v gs
whole_rest v [] gs w = w
whole_rest v (x ∷ xs) gs w = whole_rest v xs gs w.1

pub unit_push : (fs : List Fraction) (f : Fraction) (unit next : ℕ) → IsUnit fs unit → IsMultiple unit f next → IsUnit (fs ++ f ∷ []) next
unit_push fs f unit next u m = record {
  positive = m.positive;
  divides = λ v d. whole_push v fs f (u.divides v (m.divides v d).0) (m.divides v d).1;
  least = λ v w. m.least v (u.least v (whole_front v fs (f ∷ []) w)) (whole_rest v fs (f ∷ []) w).0;
}

pub unit_turn : (fs : List Fraction) (i : ℕ) (d : Fraction) (unit next : ℕ) → i < length fs → IsUnit (take i fs) unit
    → IsMultiple unit (get_or fs i d) next → IsUnit (take (i + 1) fs) next
unit_turn fs i d unit next p u m =
    subst (λ xs. IsUnit xs next) (sym (ap (λ k. take k fs) (add-one i) ∙ take-suc fs i d p)) (unit_push (take i fs) (get_or fs i d) unit next u m)

and_both : (a b : Bool) → a ≡ true → b ≡ true → (a && b) ≡ true
and_both true true p q = refl
and_both true false p q = q
and_both false b p q = p

and_left : (a b : Bool) → (a && b) ≡ true → a ≡ true
and_left true b p = refl
and_left false b p = p

and_right : (a b : Bool) → (a && b) ≡ true → b ≡ true
and_right true b p = p
and_right false b p = absurd cc

pub to_whole : (v : ℕ) (fs : List Fraction) → WholeAll v fs → makes_whole v fs ≡ true
to_whole v [] w = refl
to_whole v (f ∷ fs) w =
    let z : v * f.above % f.below ≡ 0 = mod-eq-zero_of_dvd f.below w.0 in
    and_both (nat_eq (v * f.above % f.below) 0) (makes_whole v fs) (grind arith) (to_whole v fs w.1)

pub from_whole : (v : ℕ) (fs : List Fraction) → makes_whole v fs ≡ true → WholeAll v fs
from_whole v [] e = tt
from_whole v (f ∷ fs) e =
    let t = and_left (nat_eq (v * f.above % f.below) 0) (makes_whole v fs) e in
    let z : v * f.above % f.below ≡ 0 = grind arith in
    (dvd_of_mod-eq-zero f.below z, from_whole v fs (and_right (nat_eq (v * f.above % f.below) 0) (makes_whole v fs) e))

-- what a search among `more` numbers from `from` on finds, where `w` is one of them
record Finds (from w r : ℕ) (fs : List Fraction) : Type 0 where
  whole : makes_whole r fs ≡ true
  low : from ≤ r
  high : r ≤ w

finds_by : (b : Bool) (from w next : ℕ) (fs : List Fraction) → makes_whole from fs ≡ b → from ≤ w → makes_whole w fs ≡ true
    → (suc from ≤ w → Finds (suc from) w next fs) → Finds from w (cond b from next) fs
finds_by true from w next fs e le q ih = record { whole = e; low = omega arith; high = le }
finds_by false from w next fs e le q ih = later (from_is from w)
  where
    from_is : (a b : ℕ) → (a < b) ⊎ (b ≤ a)
    from_is a b = grind arith

    later : (from < w) ⊎ (w ≤ from) → Finds from w next fs
    later (inl p) = let r = ih (omega arith) in record { whole = r.whole; low = omega (arith, r.low); high = r.high }
    later (inr p) = let same : w ≡ from = omega arith in let t : makes_whole from fs ≡ true = subst (λ k. makes_whole k fs ≡ true) same q in absurd cc

finds : (more from w : ℕ) (fs : List Fraction) → from ≤ w → w < from + more → makes_whole w fs ≡ true → Finds from w (least_from from more fs) fs
unfolding least_from
finds zero from w fs le lt q = absurd (omega arith)
finds (suc more) from w fs le lt q =
    finds_by (makes_whole from fs) from w (least_from (suc from) more fs) fs refl le q (λ k. finds more (suc from) w fs k (omega arith) q)

product_whole : (c : ℕ) (fs : List Fraction) → WholeAll (c * product_of fs) fs
product_whole c [] = tt
product_whole c (f ∷ fs) =
    let e : c * (f.below * product_of fs) * f.above ≡ c * product_of fs * f.above * f.below = omega arith in
    let k : c * f.below * product_of fs ≡ c * (f.below * product_of fs) = omega arith in (
      subst (λ n. f.below ∣ n) (sym e) (dvd-mul_left f.below (c * product_of fs * f.above)),
      subst (λ n. WholeAll n fs) k (product_whole (c * f.below) fs),
    )

products_positive : (fs : List Fraction) → All (λ f. 0 < f.below) fs → 0 < product_of fs
products_positive [] h = omega arith
products_positive (f ∷ fs) h =
    product_positive f.below (product_of fs) (h 0 f (omega arith)) (products_positive fs (λ k d p. h (suc k) d (omega arith)))

unit_found : (fs : List Fraction) (w : ℕ) → All (λ f. 0 < f.below) fs → 1 ≤ w → w ≤ product_of fs → makes_whole w fs ≡ true → Finds 1 w (unit_of fs) fs
unit_found fs w h low high q = finds (product_of fs) 1 w fs low (omega arith) q

product_is_whole : (fs : List Fraction) → WholeAll (product_of fs) fs
product_is_whole fs = let e : 1 * product_of fs ≡ product_of fs = omega arith in subst (λ n. WholeAll n fs) e (product_whole 1 fs)

-- the unit that the code takes is the least one
pub unit_is : (fs : List Fraction) (unit : ℕ) → All (λ f. 0 < f.below) fs → IsUnit fs unit → unit ≡ unit_of fs
unit_is fs unit h u =
    let p = products_positive fs h in
    let big : unit ≤ product_of fs = le_of_dvd p (u.least (product_of fs) (product_is_whole fs)) in
    let own = to_whole unit fs (u.divides unit (dvd_refl unit)) in
    let found = unit_found fs unit h u.positive big own in
    let other : unit ≤ unit_of fs = le_of_dvd (omega (arith, found.low)) (u.least (unit_of fs) (from_whole (unit_of fs) fs found.whole)) in
    omega (arith, found.high)

pub whole_at : (v : ℕ) (fs : List Fraction) (i : ℕ) (d : Fraction) → i < length fs → WholeAll v fs → (get_or fs i d).below ∣ (v * (get_or fs i d).above)
whole_at v [] i d p w = absurd (omega arith)
whole_at v (f ∷ fs) zero d p w = w.0
whole_at v (f ∷ fs) (suc i) d p w = whole_at v fs i d (omega arith) w.1

whole_take : (v : ℕ) (fs : List Fraction) (i : ℕ) → WholeAll v fs → WholeAll v (take i fs)
whole_take v fs zero w = tt
whole_take v [] (suc i) w = tt
whole_take v (f ∷ fs) (suc i) w = (w.0, whole_take v fs i w.1)

pub unit_large : (fs : List Fraction) (i : ℕ) (d : Fraction) (unit : ℕ) → All (λ f. 0 < f.below) fs → i < length fs → IsUnit (take i fs) unit
    → NoMultiple unit (get_or fs i d) → 2 ^ 62 < unit_of fs
unit_large fs i d unit h p u none =
    let positive = products_positive fs h in
    let found = unit_found fs (product_of fs) h (omega arith) (omega arith) (to_whole (product_of fs) fs (product_is_whole fs)) in
    let w = from_whole (unit_of fs) fs found.whole in
    none.large (unit_of fs) (omega (arith, found.low)) (u.least (unit_of fs) (whole_take (unit_of fs) fs i w)) (whole_at (unit_of fs) fs i d p w)

pub unit_all : (fs : List Fraction) (i unit : ℕ) → length fs ≤ i → IsUnit (take i fs) unit → IsUnit fs unit
unit_all fs i unit p u = subst (λ xs. IsUnit xs unit) (take_all i fs p) u

-- the unit makes all of them whole
pub unit_whole : (fs : List Fraction) → All (λ f. 0 < f.below) fs → WholeAll (unit_of fs) fs
unit_whole fs h =
    let positive = products_positive fs h in
    from_whole (unit_of fs) fs (unit_found fs (product_of fs) h (omega arith) (omega arith) (to_whole (product_of fs) fs (product_is_whole fs))).whole

pub unit_positive : (fs : List Fraction) → All (λ f. 0 < f.below) fs → 0 < unit_of fs
unit_positive fs h =
    let positive = products_positive fs h in
    let found = unit_found fs (product_of fs) h (omega arith) (omega arith) (to_whole (product_of fs) fs (product_is_whole fs)) in
    omega (arith, found.low)
