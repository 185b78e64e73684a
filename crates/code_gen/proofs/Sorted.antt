-- Numbers of a range that pass a test.
use Rattle.std.proofs.Common.{◌≡◌, ℕ, zero, suc, ◌+◌, ◌≤◌, ◌<◌, Bool, true, false, List, [], ◌∷◌, refl, sym, ap, ◌∙◌, arith, inl, inr}
use Rattle.std.specs.Prelude.{◌==◌, ◌||◌, cond, if◌then◌else◌, ◌⊎◌}
use Rattle.std.specs.List.{AllByRecursion, filter, range_with_len}
use Rattle.std.proofs.lemmas.Bool.Decides.{nat_tests}
use Rattle.camelot_values.specs.Lists.{Ascend, is_among}
use Rattle.normal_form.specs.Live.{times}

pub or_second : (a b : Bool) → b ≡ true → (a || b) ≡ true
or_second true b h = refl
or_second false b h = h

pub same_or_not : (x y : ℕ) → (x ≡ y) ⊎ (x ≡ y → ⊥)
same_or_not x y = by_test (x == y) refl
  where
    by_test : (b : Bool) → (x == y) ≡ b → (x ≡ y) ⊎ (x ≡ y → ⊥)
    by_test true t = inl (grind (arith, nat_tests, t))
    by_test false t = inr (λ e. let k : (x == y) ≡ true = grind (arith, nat_tests, e) in let c : false ≡ true = sym t ∙ k in absurd cc)

pub same_test : (x y : ℕ) → x ≡ y → (x == y) ≡ true
same_test x y e = grind (arith, nat_tests, e)

pub other_test : (x y : ℕ) → (x ≡ y → ⊥) → (x == y) ≡ false
other_test x y n = by_value (x == y) refl
  where
    by_value : (b : Bool) → (x == y) ≡ b → b ≡ false
    by_value true e = absurd (n (grind (arith, nat_tests, e)))
    by_value false e = refl

-- the numbers from `a` on, `n` of them, that pass
abbrev pub passing : (ℕ → Bool) → ℕ → ℕ → List ℕ
passing p a n = filter p (range_with_len a n)

-- with this number in front, if it passes
abbrev chosen : Bool → ℕ → List ℕ → List ℕ
chosen b a xs = cond b (a ∷ xs) xs

pub among_passing : (p : ℕ → Bool) (a n x : ℕ) → a ≤ x → x < a + n → p x ≡ true → is_among (passing p a n) x ≡ true
among_passing p a zero x h k e = absurd (omega (arith, h, k))
among_passing p a (suc n) x h k e = either (λ g. among_passing p (a + 1) n x g (omega (arith, k)) e) (same_or_not a x)
  where
    here : (b : Bool) → b ≡ true → a ≡ x → is_among (chosen b a (passing p (a + 1) n)) x ≡ true
    here true f q = let t : (a == x) ≡ true = grind (arith, nat_tests, q) in ap (λ b. b || is_among (passing p (a + 1) n) x) t
    here false f q = absurd cc

    behind : (b : Bool) → is_among (passing p (a + 1) n) x ≡ true → is_among (chosen b a (passing p (a + 1) n)) x ≡ true
    behind true q = or_second (a == x) (is_among (passing p (a + 1) n) x) q
    behind false q = q

    either : (a + 1 ≤ x → is_among (passing p (a + 1) n) x ≡ true) → (a ≡ x) ⊎ (a ≡ x → ⊥) → is_among (passing p a (suc n)) x ≡ true
    either later (inl same) = here (p a) (ap p same ∙ e) same
    either later (inr differ) = behind (p a) (later (omega (arith, h, differ)))

-- each stands once, if it passes and lies in the range
pub record Stands (p : ℕ → Bool) (a x n : ℕ) : Type 0 where
  pub most : n ≤ 1
  pub passes : 1 ≤ n → p x ≡ true
  pub above : 1 ≤ n → a ≤ x

pub times_passing : (p : ℕ → Bool) (a n x : ℕ) → Stands p a x (times x (passing p a n))
times_passing p a zero x = record { most = omega arith; passes = λ h. absurd (omega (arith, h)); above = λ h. absurd (omega (arith, h)) }
times_passing p a (suc n) x = by_test (p a) refl (times_passing p (a + 1) n x) (same_or_not a x)
  where
    counted : a ≡ x → ◌≡◌ {A = ℕ} (if a == x then 1 else 0) 1
    counted same = let t : (a == x) ≡ true = grind (arith, nat_tests, same) in ap (λ b. if b then 1 else 0) t

    uncounted : (a ≡ x → ⊥) → ◌≡◌ {A = ℕ} (if a == x then 1 else 0) 0
    uncounted differ = by_value (a == x) refl
      where
        by_value : (b : Bool) → (a == x) ≡ b → ◌≡◌ {A = ℕ} (if b then 1 else 0) 0
        by_value true t = absurd (differ (grind (arith, nat_tests, t)))
        by_value false t = refl

    none_above : (k : ℕ) → (1 ≤ k → a + 1 ≤ x) → a ≡ x → k ≡ 0
    none_above zero above same = refl
    none_above (suc k) above same = let q = above (omega arith) in absurd (omega (arith, q, same))

    by_test : (b : Bool) → p a ≡ b → Stands p (a + 1) x (times x (passing p (a + 1) n)) → (a ≡ x) ⊎ (a ≡ x → ⊥)
        → Stands p a x (times x (chosen b a (passing p (a + 1) n)))
    by_test false e r q = record { most = r.most; passes = r.passes; above = λ h. (let k = r.above h in omega (arith, k)) }
    by_test true e r (inl same) =
        let one = counted same in
        let none = none_above (times x (passing p (a + 1) n)) r.above same in
        record { most = omega (arith, one, none); passes = λ h. ap p (sym same) ∙ e; above = λ h. omega (arith, same) }
    by_test true e r (inr differ) =
        let none = uncounted differ in
        let most = r.most in
        record { most = omega (arith, none, most); passes = λ h. r.passes (omega (arith, none, h)); above = λ h. (let k = r.above (omega (arith, none, h)) in omega (arith, k)) }

pub among_times : (xs : List ℕ) (x : ℕ) → is_among xs x ≡ true → 1 ≤ times x xs
among_times [] x h = absurd cc
among_times (y ∷ xs) x h = by_test (y == x) (among_times xs x) h
  where
    by_test : (b : Bool) → (is_among xs x ≡ true → 1 ≤ times x xs) → (b || is_among xs x) ≡ true → 1 ≤ (if b then 1 else 0) + times x xs
    by_test true f k = omega arith
    by_test false f k = let q = f k in omega (arith, q)

-- ---- in order

abbrev Above : ℕ → List ℕ → Type 0
Above a [] = Unit {0}
Above a (x ∷ xs) = a < x

in_order : (a : ℕ) (xs : List ℕ) → Above a xs → Ascend xs → Ascend (a ∷ xs)
in_order a [] h k = tt
in_order a (x ∷ xs) h k = (h, k)

passing_above : (p : ℕ → Bool) (b a n : ℕ) → b < a → Above b (passing p a n)
passing_above p b a zero h = tt
passing_above p b a (suc n) h = by_test (passing_above p b (a + 1) n (omega (arith, h))) (p a)
  where
    by_test : Above b (passing p (a + 1) n) → (c : Bool) → Above b (chosen c a (passing p (a + 1) n))
    by_test f true = h
    by_test f false = f

pub passing_ascend : (p : ℕ → Bool) (a n : ℕ) → Ascend (passing p a n)
passing_ascend p a zero = tt
passing_ascend p a (suc n) = by_test (passing_ascend p (a + 1) n) (p a)
  where
    by_test : Ascend (passing p (a + 1) n) → (c : Bool) → Ascend (chosen c a (passing p (a + 1) n))
    by_test f true = in_order a (passing p (a + 1) n) (passing_above p a (a + 1) n (omega arith)) f
    by_test f false = f

pub passing_below : (p : ℕ → Bool) (a n m : ℕ) → a + n ≤ m → AllByRecursion (λ x. x < m) (passing p a n)
passing_below p a zero m h = tt
passing_below p a (suc n) m h = by_test (passing_below p (a + 1) n m (omega (arith, h))) (p a)
  where
    by_test : AllByRecursion (λ x. x < m) (passing p (a + 1) n) → (c : Bool) → AllByRecursion (λ x. x < m) (chosen c a (passing p (a + 1) n))
    by_test f true = (omega (arith, h), f)
    by_test f false = f

-- a range is what always passes
pub range_passes : (a n : ℕ) → passing (λ x. true) a n ≡ range_with_len a n
range_passes a zero = refl
range_passes a (suc n) = ap (λ l. a ∷ l) (range_passes (a + 1) n)
