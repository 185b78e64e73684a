-- Laws, for the proofs of this crate and of those above it.
-- The order of numbers by their digits.
use Rattle.std.proofs.Common.{◌≡◌, ℕ, suc, ◌+◌, ◌-◌, ◌*◌, ◌<◌, ◌≤◌, Bool, true, false, List, [], ◌∷◌, length, Some, None, refl, sym, ap, ◌∙◌, arith, inl, inr}
use Rattle.std.specs.Prelude.{◌⊎◌, nat_lt, ◌==◌, if◌then◌else◌}
use Rattle.std.proofs.lemmas.Bool.{cases_lt}
use Rattle.std.proofs.lemmas.Bool.Decides.{nat_tests}
use Rattle.camelot_values.specs.Names.{is_digit}
use Rattle.text_lines.specs.Cuts.{digits_on, number_of}
use Rattle.text_lines.specs.OptionLaws.{some_same}
use Rattle.text_lines.specs.NumberLaws.{digit_range, on_some}
use Rattle.certificate.specs.Reading.{digits_below, is_before}

on_least : (a n : ℕ) (ds : List ℕ) → digits_on a ds ≡ Some n → a ≤ n
on_least a n [] e = omega (arith, some_same a n e)
on_least a n (d ∷ ds) e = let p = on_some a d n ds e in omega (arith, on_least (a * 10 + (d - 48)) n ds p.1)

-- a smaller start and no more digits
smaller : (a b m n : ℕ) (xs ys : List ℕ) → a < b → length xs ≤ length ys → digits_on a xs ≡ Some m → digits_on b ys ≡ Some n → m < n
smaller a b m n [] ys h k e f = omega (arith, some_same a m e, on_least b n ys f)
smaller a b m n (x ∷ xs) [] h k e f = absurd (omega (arith, k))
smaller a b m n (x ∷ xs) (y ∷ ys) h k e f =
    by_size (cases_lt (length xs) (length ys)) (smaller a (b * 10 + (y - 48)) m n (x ∷ xs) ys) (smaller (a * 10 + (x - 48)) (b * 10 + (y - 48)) m n xs ys)
  where
    p : (is_digit x ≡ true) × (digits_on (a * 10 + (x - 48)) xs ≡ Some m)
    p = on_some a x m xs e

    q : (is_digit y ≡ true) × (digits_on (b * 10 + (y - 48)) ys ≡ Some n)
    q = on_some b y n ys f

    by_size : (length xs < length ys) ⊎ (length ys ≤ length xs)
        → (a < b * 10 + (y - 48) → length (x ∷ xs) ≤ length ys → digits_on a (x ∷ xs) ≡ Some m → digits_on (b * 10 + (y - 48)) ys ≡ Some n → m < n)
        → (a * 10 + (x - 48) < b * 10 + (y - 48) → length xs ≤ length ys → digits_on (a * 10 + (x - 48)) xs ≡ Some m → digits_on (b * 10 + (y - 48)) ys ≡ Some n → m < n)
        → m < n
    by_size (inl s) f g = f (omega (arith, h)) (omega (arith, s)) e q.1
    by_size (inr s) f g = let r = digit_range x p.0 in g (omega (arith, h, r.0, r.1)) (omega (arith, k)) p.1 q.1

below_same : (a m n : ℕ) (xs ys : List ℕ) → length xs ≡ length ys → digits_on a xs ≡ Some m → digits_on a ys ≡ Some n → digits_below xs ys ≡ nat_lt m n
below_same a m n [] [] k e f = let s : m ≡ n = sym (some_same a m e) ∙ some_same a n f in grind (arith, nat_tests, s)
below_same a m n [] (y ∷ ys) k e f = absurd (omega (arith, k))
below_same a m n (x ∷ xs) [] k e f = absurd (omega (arith, k))
below_same a m n (x ∷ xs) (y ∷ ys) k e f = by_test (x == y) refl (λ s. below_same (a * 10 + (x - 48)) m n xs ys (omega (arith, k)) p.1 (ap (λ z. digits_on (a * 10 + (z - 48)) ys) s ∙ q.1))
  where
    p : (is_digit x ≡ true) × (digits_on (a * 10 + (x - 48)) xs ≡ Some m)
    p = on_some a x m xs e

    q : (is_digit y ≡ true) × (digits_on (a * 10 + (y - 48)) ys ≡ Some n)
    q = on_some a y n ys f

    by_order : (x < y) ⊎ (y ≤ x) → (x == y) ≡ false → nat_lt x y ≡ nat_lt m n
    by_order (inl h) t = let r = digit_range x p.0 in let s : m < n = smaller (a * 10 + (x - 48)) (a * 10 + (y - 48)) m n xs ys (omega (arith, h, r.0)) (omega (arith, k)) p.1 q.1 in grind (arith, nat_tests, h, s)
    by_order (inr h) t = let r = digit_range y q.0 in let g : y < x = grind (arith, nat_tests, h, t) in let s : n < m = smaller (a * 10 + (y - 48)) (a * 10 + (x - 48)) n m ys xs (omega (arith, g, r.0)) (omega (arith, k)) q.1 p.1 in grind (arith, nat_tests, g, s)

    by_test : (t : Bool) → (x == y) ≡ t → (x ≡ y → digits_below xs ys ≡ nat_lt m n) → (if t then digits_below xs ys else nat_lt x y) ≡ nat_lt m n
    by_test true h g = g (let s : x ≡ y = grind (arith, nat_tests, h) in s)
    by_test false h g = by_order (cases_lt x y) h

-- fewer digits
fewer : (m n : ℕ) (xs : List ℕ) (y : ℕ) (ys : List ℕ) → length xs ≤ length ys → (y == 48) ≡ false → digits_on 0 xs ≡ Some m
    → digits_on 0 (y ∷ ys) ≡ Some n → m < n
fewer m n xs y ys k h e f =
    let q = on_some 0 y n ys f in
    let r = digit_range y q.0 in
    let some : 0 < 0 * 10 + (y - 48) = grind (arith, nat_tests, r.0, h) in
    smaller 0 (0 * 10 + (y - 48)) m n xs ys some k e q.1

-- the digits of what was read, and its first one where there are two or more
record Read (w : List ℕ) (n : ℕ) : Type 0 where
  first : ℕ
  others : List ℕ
  is : w ≡ first ∷ others
  on : digits_on 0 (first ∷ others) ≡ Some n
  lead : 1 ≤ length others → (first == 48) ≡ false

read_is : (w : List ℕ) (n : ℕ) → number_of w ≡ Some n → Read w n
unfolding number_of
read_is [] n e = absurd cc
read_is (b ∷ []) n e = record { first = b; others = []; is = refl; on = e; lead = λ k. absurd (omega (arith, k)) }
read_is (b ∷ c ∷ bs) n e = by_test (b == 48) refl e
  where
    by_test : (t : Bool) → (b == 48) ≡ t → (if t then None else digits_on 0 (b ∷ c ∷ bs)) ≡ Some n → Read (b ∷ c ∷ bs) n
    by_test true h e = absurd cc
    by_test false h e = record { first = b; others = c ∷ bs; is = refl; on = e; lead = λ k. h }

order_is : (m n x y : ℕ) (xs ys : List ℕ) → digits_on 0 (x ∷ xs) ≡ Some m → digits_on 0 (y ∷ ys) ≡ Some n → (1 ≤ length xs → (x == 48) ≡ false)
    → (1 ≤ length ys → (y == 48) ≡ false) → is_before (x ∷ xs) (y ∷ ys) ≡ nat_lt m n
order_is m n x y xs ys e f h g = by_test (suc (length xs) == suc (length ys)) refl
  where
    by_order : (length xs < length ys) ⊎ (length ys ≤ length xs) → (suc (length xs) == suc (length ys)) ≡ false
        → nat_lt (suc (length xs)) (suc (length ys)) ≡ nat_lt m n
    by_order (inl s) t = let r : m < n = fewer m n (x ∷ xs) y ys (omega (arith, s)) (g (omega (arith, s))) e f in grind (arith, nat_tests, r, s)
    by_order (inr s) t = let d : length ys < length xs = grind (arith, nat_tests, s, t) in let r : n < m = fewer n m (y ∷ ys) x xs (omega (arith, d)) (h (omega (arith, d))) f e in grind (arith, nat_tests, r, d)

    by_test : (t : Bool) → (suc (length xs) == suc (length ys)) ≡ t
        → (if t then digits_below (x ∷ xs) (y ∷ ys) else nat_lt (suc (length xs)) (suc (length ys))) ≡ nat_lt m n
    by_test true t = below_same 0 m n (x ∷ xs) (y ∷ ys) (let s : suc (length xs) ≡ suc (length ys) = grind (arith, nat_tests, t) in s) e f
    by_test false t = by_order (cases_lt (length xs) (length ys)) t

pub before_is : (xs ys : List ℕ) (m n : ℕ) → number_of xs ≡ Some m → number_of ys ≡ Some n → is_before xs ys ≡ nat_lt m n
before_is xs ys m n e f =
    let p = read_is xs m e in
    let q = read_is ys n f in
    ap (λ l. is_before l ys) p.is ∙ ap (is_before (p.first ∷ p.others)) q.is ∙ order_is m n p.first q.first p.others q.others p.on q.on p.lead q.lead

pub before_first : (ys : List ℕ) (n : ℕ) → number_of ys ≡ Some n → is_before [] ys ≡ true
unfolding number_of
before_first [] n f = absurd cc
before_first (y ∷ ys) n f = grind (arith, nat_tests)
