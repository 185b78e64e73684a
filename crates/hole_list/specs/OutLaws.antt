-- Laws, for the proofs of this crate and of those above it.
-- The runs that are out: how one more and one less change them.
use Rattle.std.proofs.Common.{◌≡◌, ℕ, suc, ◌+◌, ◌<◌, ◌≤◌, List, [], ◌∷◌, length, refl, sym, ap, ◌∙◌, subst, arith, inl, inr}
use Rattle.std.specs.Prelude.{◌==◌, ◌⊎◌, nat_lt}
use Rattle.std.proofs.lemmas.Bool.{cond_both, ltb-true, ltb-false, eqb-true, eqb-false}
use Rattle.hole_list.specs.declared.run.Run.{Run}
use Rattle.hole_list.specs.Placing.{end_of, in_run, times_in, total, AreOrdered, IsOut, with_run, without_run, AreFreeOf}

-- ---- order

-- none of these begins before this index
abbrev pub AreFrom : ℕ → List Run → Type 0
AreFrom n [] = Unit {0}
AreFrom n (s ∷ ss) = n ≤ s.first

pub ordered_front : (s : Run) (ss : List Run) → AreOrdered (s ∷ ss) → (1 ≤ s.size) × AreFrom (end_of s) ss × AreOrdered ss
ordered_front s [] o = (o, tt, tt)
ordered_front s (t ∷ ss) o = (o.0, o.1, o.2)

pub ordered_from : (s : Run) (ss : List Run) → 1 ≤ s.size → AreFrom (end_of s) ss → AreOrdered ss → AreOrdered (s ∷ ss)
ordered_from s [] some f o = some
ordered_from s (t ∷ ss) some f o = (some, f, o)

from_less : (m n : ℕ) (ss : List Run) → m ≤ n → AreFrom n ss → AreFrom m ss
from_less m n [] h f = tt
from_less m n (s ∷ ss) h f = omega (arith, h, f)

-- each of them begins there or later
pub one_from : (n : ℕ) (ss : List Run) (r : Run) → AreFrom n ss → AreOrdered ss → IsOut ss r → n ≤ r.first
one_from n [] r f o k = absurd k
one_from n (s ∷ ss) r f o k = let q = ordered_front s ss o in by_side (one_from n ss r (from_less n (end_of s) ss (omega (arith, f)) q.1) q.2) k
  where
    by_side : (IsOut ss r → n ≤ r.first) → (s ≡ r) ⊎ IsOut ss r → n ≤ r.first
    by_side next (inl e) = subst (λ (x : Run). n ≤ x.first) e f
    by_side next (inr q) = next q

-- ---- one more

with_step : (s : Run) (ss : List Run) (r : Run) (P : List Run → Type 0) → (r.first < s.first → P (r ∷ s ∷ ss))
    → (s.first ≤ r.first → P (s ∷ with_run ss r)) → P (with_run (s ∷ ss) r)
with_step s ss r P a b = cond_both {A = List Run} (nat_lt r.first s.first) (r ∷ s ∷ ss) (s ∷ with_run ss r) P (λ e. a (ltb-true r.first s.first e)) (λ e. b (ltb-false r.first s.first e))

pub with_times : (ss : List Run) (r : Run) (i : ℕ) → times_in (with_run ss r) i ≡ times_in ss i + in_run r i
with_times [] r i = omega arith
with_times (s ∷ ss) r i = with_step s ss r (λ l. times_in l i ≡ times_in (s ∷ ss) i + in_run r i) (λ h. omega arith) (λ h. omega (arith, with_times ss r i))

pub with_total : (ss : List Run) (r : Run) → total (with_run ss r) ≡ total ss + r.size
with_total [] r = omega arith
with_total (s ∷ ss) r = with_step s ss r (λ l. total l ≡ total (s ∷ ss) + r.size) (λ h. omega arith) (λ h. omega (arith, with_total ss r))

pub with_length : (ss : List Run) (r : Run) → length (with_run ss r) ≡ suc (length ss)
with_length [] r = refl
with_length (s ∷ ss) r = with_step s ss r (λ l. length l ≡ suc (length (s ∷ ss))) (λ h. refl) (λ h. ap suc (with_length ss r))

-- it is one of them, and so is each that was
pub with_this : (ss : List Run) (r : Run) → IsOut (with_run ss r) r
with_this [] r = inl refl
with_this (s ∷ ss) r = with_step s ss r (λ l. IsOut l r) (λ h. inl refl) (λ h. inr (with_this ss r))

pub with_others : (ss : List Run) (r q : Run) → IsOut ss q → IsOut (with_run ss r) q
with_others [] r q k = absurd k
with_others (s ∷ ss) r q k = with_step s ss r (λ l. IsOut l q) (λ h. inr k) (λ h. by_side (with_others ss r q) k)
  where
    by_side : (IsOut ss q → IsOut (with_run ss r) q) → (s ≡ q) ⊎ IsOut ss q → (s ≡ q) ⊎ IsOut (with_run ss r) q
    by_side next (inl e) = inl e
    by_side next (inr m) = inr (next m)

-- and there is no other
pub with_only : (ss : List Run) (r q : Run) → IsOut (with_run ss r) q → (r ≡ q) ⊎ IsOut ss q
with_only [] r q (inl e) = inl e
with_only [] r q (inr k) = absurd k
with_only (s ∷ ss) r q k = with_step s ss r (λ l. IsOut l q → (r ≡ q) ⊎ ((s ≡ q) ⊎ IsOut ss q)) (λ h m. m) (λ h m. by_side (with_only ss r q) m) k
  where
    moved : (r ≡ q) ⊎ IsOut ss q → (r ≡ q) ⊎ ((s ≡ q) ⊎ IsOut ss q)
    moved (inl e) = inl e
    moved (inr n) = inr (inr n)

    by_side : (IsOut (with_run ss r) q → (r ≡ q) ⊎ IsOut ss q) → (s ≡ q) ⊎ IsOut (with_run ss r) q → (r ≡ q) ⊎ ((s ≡ q) ⊎ IsOut ss q)
    by_side next (inl e) = inr (inl e)
    by_side next (inr m) = moved (next m)

-- a run that has no cell of the others is put in order
pub with_ordered : (ss : List Run) (r : Run) → 1 ≤ r.size → AreOrdered ss → AreFreeOf ss r
    → AreOrdered (with_run ss r) × ((n : ℕ) → n ≤ r.first → AreFrom n ss → AreFrom n (with_run ss r))
with_ordered [] r some o f = (some, λ n h k. h)
with_ordered (s ∷ ss) r some o f =
    let o' = ordered_front s ss o in
    let rest = with_ordered ss r some o'.2 f.1 in
    with_step s ss r (λ l. AreOrdered l × ((n : ℕ) → n ≤ r.first → n ≤ s.first → AreFrom n l))
    (λ h. (ordered_from r (s ∷ ss) some (before f.0 h) o, λ n a b. a))
    (λ h. (ordered_from s (with_run ss r) o'.0 (rest.1 (end_of s) (behind f.0 h) o'.1) rest.0, λ n a b. b))
  where
    before : (end_of r ≤ s.first) ⊎ (end_of s ≤ r.first) → r.first < s.first → end_of r ≤ s.first
    before (inl a) h = a
    before (inr a) h = absurd (omega (arith, a, h))

    behind : (end_of r ≤ s.first) ⊎ (end_of s ≤ r.first) → s.first ≤ r.first → end_of s ≤ r.first
    behind (inl a) h = absurd (omega (arith, a, h, some))
    behind (inr a) h = a

-- ---- one less

without_step : (s : Run) (ss : List Run) (n : ℕ) (P : List Run → Type 0) → (s.first ≡ n → P ss) → ((s.first ≡ n → ⊥) → P (s ∷ without_run ss n))
    → P (without_run (s ∷ ss) n)
without_step s ss n P a b = cond_both {A = List Run} (s.first == n) ss (s ∷ without_run ss n) P (λ e. a (eqb-true s.first n e)) (λ e. b (eqb-false s.first n e))

-- where it begins as this one, it is this one
same_first : (s : Run) (ss : List Run) (r : Run) → AreOrdered (s ∷ ss) → IsOut (s ∷ ss) r → s.first ≡ r.first → s ≡ r
same_first s ss r o (inl e) f = e
same_first s ss r o (inr k) f =
    let q = ordered_front s ss o in
    absurd (omega (arith, one_from (end_of s) ss r q.1 q.2 k, q.0, f))

pub other_one : (s : Run) (ss : List Run) (r : Run) → IsOut (s ∷ ss) r → (s.first ≡ r.first → ⊥) → IsOut ss r
other_one s ss r (inl e) f = absurd (f (ap (λ (x : Run). x.first) e))
other_one s ss r (inr k) f = k

pub without_times : (ss : List Run) (r : Run) (i : ℕ) → AreOrdered ss → IsOut ss r → times_in (without_run ss r.first) i + in_run r i ≡ times_in ss i
without_times [] r i o k = absurd k
without_times (s ∷ ss) r i o k =
    without_step s ss r.first (λ l. times_in l i + in_run r i ≡ times_in (s ∷ ss) i)
    (λ e. let same : in_run s i ≡ in_run r i = ap (λ (x : Run). in_run x i) (same_first s ss r o k e) in omega (arith, same))
    (λ e. omega (arith, without_times ss r i (ordered_front s ss o).2 (other_one s ss r k e)))

pub without_total : (ss : List Run) (r : Run) → AreOrdered ss → IsOut ss r → total (without_run ss r.first) + r.size ≡ total ss
without_total [] r o k = absurd k
without_total (s ∷ ss) r o k =
    without_step s ss r.first (λ l. total l + r.size ≡ total (s ∷ ss))
    (λ e. let same : s.size ≡ r.size = ap (λ (x : Run). x.size) (same_first s ss r o k e) in omega (arith, same))
    (λ e. omega (arith, without_total ss r (ordered_front s ss o).2 (other_one s ss r k e)))

pub without_length : (ss : List Run) (r : Run) → IsOut ss r → suc (length (without_run ss r.first)) ≡ length ss
without_length [] r k = absurd k
without_length (s ∷ ss) r k =
    without_step s ss r.first (λ l. suc (length l) ≡ length (s ∷ ss)) (λ e. refl) (λ e. ap suc (without_length ss r (other_one s ss r k e)))

-- order is kept
pub without_ordered : (ss : List Run) (n : ℕ) → AreOrdered ss → AreOrdered (without_run ss n) × ((m : ℕ) → AreFrom m ss → AreFrom m (without_run ss n))
without_ordered [] n o = (tt, λ m f. tt)
without_ordered (s ∷ ss) n o =
    let o' = ordered_front s ss o in
    let rest = without_ordered ss n o'.2 in
    without_step s ss n (λ l. AreOrdered l × ((m : ℕ) → m ≤ s.first → AreFrom m l))
    (λ e. (o'.2, λ m f. from_less m (end_of s) ss (omega (arith, f)) o'.1))
    (λ e. (ordered_from s (without_run ss n) o'.0 (rest.1 (end_of s) o'.1) rest.0, λ m f. f))

-- each of the others is still one of them
pub without_others : (ss : List Run) (n : ℕ) (q : Run) → IsOut ss q → (q.first ≡ n → ⊥) → IsOut (without_run ss n) q
without_others [] n q k h = absurd k
without_others (s ∷ ss) n q k h =
    without_step s ss n (λ l. IsOut l q) (λ e. other_one s ss q k (λ f. h (sym f ∙ e))) (λ e. by_side (λ m. without_others ss n q m h) k)
  where
    by_side : (IsOut ss q → IsOut (without_run ss n) q) → (s ≡ q) ⊎ IsOut ss q → (s ≡ q) ⊎ IsOut (without_run ss n) q
    by_side next (inl e) = inl e
    by_side next (inr m) = inr (next m)

-- and there is no other
pub without_only : (ss : List Run) (n : ℕ) (q : Run) → IsOut (without_run ss n) q → IsOut ss q
without_only [] n q k = k
without_only (s ∷ ss) n q k = without_step s ss n (λ l. IsOut l q → IsOut (s ∷ ss) q) (λ e m. inr m) (λ e m. by_side (without_only ss n q) m) k
  where
    by_side : (IsOut (without_run ss n) q → IsOut ss q) → (s ≡ q) ⊎ IsOut (without_run ss n) q → (s ≡ q) ⊎ IsOut ss q
    by_side next (inl e) = inl e
    by_side next (inr m) = inr (next m)

-- none that begins here is left
pub without_gone : (ss : List Run) (r q : Run) → AreOrdered ss → IsOut ss r → IsOut (without_run ss r.first) q → q.first ≡ r.first → ⊥
without_gone [] r q o k m e = absurd k
without_gone (s ∷ ss) r q o k m e =
    let o' = ordered_front s ss o in
    without_step s ss r.first (λ l. IsOut l q → ⊥)
    (λ f m'. omega (arith, one_from (end_of s) ss q o'.1 o'.2 m', o'.0, e, f))
    (λ f m'. by_side (λ k' m''. without_gone ss r q o'.2 k' m'' e) f m') m
  where
    by_side : (IsOut ss r → IsOut (without_run ss r.first) q → ⊥) → (s.first ≡ r.first → ⊥) → (s ≡ q) ⊎ IsOut (without_run ss r.first) q → ⊥
    by_side next f (inl g) = f (ap (λ (x : Run). x.first) g ∙ e)
    by_side next f (inr m') = next (other_one s ss r k f) m'
