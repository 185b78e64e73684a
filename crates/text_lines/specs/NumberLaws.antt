-- Laws, for the proofs of this crate and of those above it.
-- Numbers in decimal: their text, and back.
use Rattle.std.proofs.Common.{◌≡◌, ℕ, zero, suc, ◌+◌, ◌-◌, ◌*◌, ◌/◌, ◌%◌, ◌^◌, ◌<◌, ◌≤◌, Bool, true, false, List, [], ◌∷◌, ◌++◌, Some, None, refl, sym, ap, ◌∙◌, subst, arith, append_assoc, append-nil, inl, inr}
use Rattle.std.specs.Prelude.{◌⊎◌, nat_lt, nat_le, ◌==◌, if◌then◌else◌}
use Rattle.std.specs.Fmt.{decimal}
use Rattle.std.proofs.lemmas.Bool.{cases_lt}
use Rattle.std.proofs.lemmas.Bool.Decides.{nat_tests}
use Rattle.std.proofs.lemmas.Fmt.{decimal_digit, decimal_step}
use Rattle.camelot_values.specs.Names.{is_digit}
use Rattle.text_lines.specs.Numbers.{digits, number}
use Rattle.text_lines.specs.Cuts.{digits_on, number_of}
use Rattle.text_lines.specs.OptionLaws.{true_false, some_same, and_parts}
use Rattle.text_lines.specs.CutLaws.{free_cons}
use Rattle.text_lines.specs.Lines.{Free}

-- ---- the digits of a number

digits_small : (k n : ℕ) → n < 10 → digits (suc k) n ≡ (48 + n) ∷ []
unfolding digits
digits_small k n h = ap (λ b. elim b as (λ c. List ℕ) [ true ↦ (48 + n) ∷ [] | false ↦ digits k (n / 10) ++ (48 + n % 10) ∷ [] ]) (let t : nat_lt n 10 ≡ true = grind (arith, nat_tests, h) in t)

digits_large : (k n : ℕ) → 10 ≤ n → digits (suc k) n ≡ digits k (n / 10) ++ (48 + n % 10) ∷ []
unfolding digits
digits_large k n h = ap (λ b. elim b as (λ c. List ℕ) [ true ↦ (48 + n) ∷ [] | false ↦ digits k (n / 10) ++ (48 + n % 10) ∷ [] ]) (let t : nat_lt n 10 ≡ false = grind (arith, nat_tests, h) in t)

digits_fuel : (k j n : ℕ) → n < k → n < j → digits k n ≡ digits j n
digits_fuel zero j n h g = absurd (omega arith)
digits_fuel (suc k) zero n h g = absurd (omega arith)
digits_fuel (suc k) (suc j) n h g = by_size (cases_lt n 10) (λ big. digits_fuel k j (n / 10) (omega (arith, big)) (omega (arith, big)))
  where
    by_size : (n < 10) ⊎ (10 ≤ n) → (10 ≤ n → digits k (n / 10) ≡ digits j (n / 10)) → digits (suc k) n ≡ digits (suc j) n
    by_size (inl small) f = digits_small k n small ∙ sym (digits_small j n small)
    by_size (inr big) f = digits_large k n big ∙ ap (λ l. l ++ (48 + n % 10) ∷ []) (f big) ∙ sym (digits_large j n big)

pub number_digit : (n : ℕ) → n < 10 → number n ≡ (48 + n) ∷ []
unfolding number
number_digit n h = digits_small n n h

pub number_step : (n : ℕ) → 10 ≤ n → number n ≡ number (n / 10) ++ (48 + n % 10) ∷ []
unfolding number
number_step n h = digits_large n n h ∙ ap (λ l. l ++ (48 + n % 10) ∷ []) (digits_fuel n (suc (n / 10)) (n / 10) (omega (arith, h)) (omega arith))

-- what holds of one digit, and with one digit more, holds of each number
pub record Steps (P : ℕ → List ℕ → Type 0) : Type 0 where
  pub one : (n : ℕ) → n < 10 → P n ((48 + n) ∷ [])
  pub more : (n : ℕ) (ds : List ℕ) → 10 ≤ n → P (n / 10) ds → P n (ds ++ (48 + n % 10) ∷ [])

steps_below : (P : ℕ → List ℕ → Type 0) → Steps P → (k n : ℕ) → n < k → P n (number n)
steps_below P s zero n h = absurd (omega arith)
steps_below P s (suc k) n h = by_size (cases_lt n 10) (λ big. steps_below P s k (n / 10) (omega (arith, big)))
  where
    by_size : (n < 10) ⊎ (10 ≤ n) → (10 ≤ n → P (n / 10) (number (n / 10))) → P n (number n)
    by_size (inl small) f = subst (P n) (sym (number_digit n small)) (s.one n small)
    by_size (inr big) f = subst (P n) (sym (number_step n big)) (s.more n (number (n / 10)) big (f big))

pub by_steps : (P : ℕ → List ℕ → Type 0) → Steps P → (n : ℕ) → P n (number n)
by_steps P s n = steps_below P s (suc n) n (omega arith)

-- within 64 bits std writes the same
pub number-decimal : (n : ℕ) → n < 2 ^ 64 → number n ≡ decimal n
number-decimal n = by_steps (λ n ds. n < 2 ^ 64 → ds ≡ decimal n) (record {
  one = λ n small h. sym (decimal_digit n small);
  more = λ n ds big f h. ap (λ l. l ++ (48 + n % 10) ∷ []) (f (omega (arith, h))) ∙ sym (decimal_step n big h);
}) n

-- ---- reading

digit_test : (b : ℕ) → 48 ≤ b → b ≤ 57 → is_digit b ≡ true
digit_test b h k = grind (arith, nat_tests, h, k)

pub digit_range : (b : ℕ) → is_digit b ≡ true → (48 ≤ b) × (b ≤ 57)
digit_range b h = let p = and_parts (nat_le 48 b) (nat_le b 57) h in (grind (arith, nat_tests, p.0), grind (arith, nat_tests, p.1))

pub on_digit : (a b : ℕ) (bs : List ℕ) → is_digit b ≡ true → digits_on a (b ∷ bs) ≡ digits_on (a * 10 + (b - 48)) bs
on_digit a b bs h = ap (λ t. if t then digits_on (a * 10 + (b - 48)) bs else None) h

pub on_some : (a b n : ℕ) (bs : List ℕ) → digits_on a (b ∷ bs) ≡ Some n → (is_digit b ≡ true) × (digits_on (a * 10 + (b - 48)) bs ≡ Some n)
on_some a b n bs e = by_test (is_digit b) refl e
  where
    by_test : (t : Bool) → is_digit b ≡ t → (if t then digits_on (a * 10 + (b - 48)) bs else None) ≡ Some n
        → (is_digit b ≡ true) × (digits_on (a * 10 + (b - 48)) bs ≡ Some n)
    by_test true h e = (h, e)
    by_test false h e = absurd cc

-- the text of a number reads as it, and has no leading zero
record Numeral (n : ℕ) (ds : List ℕ) : Type 0 where
  on : (rest : List ℕ) → digits_on 0 (ds ++ rest) ≡ digits_on n rest
  first : ℕ
  others : List ℕ
  is : ds ≡ first ∷ others
  lead : 1 ≤ n → (first == 48) ≡ false
  zero_is : n ≡ 0 → others ≡ []

numeral_one : (n : ℕ) → n < 10 → Numeral n ((48 + n) ∷ [])
numeral_one n h = record {
  on = λ rest. on_digit 0 (48 + n) rest (digit_test (48 + n) (omega arith) (omega (arith, h))) ∙ ap (λ k. digits_on k rest) (let e : 0 * 10 + (48 + n - 48) ≡ n = omega arith in e);
  first = 48 + n;
  others = [];
  is = refl;
  lead = λ k. grind (arith, nat_tests, k);
  zero_is = λ k. refl;
}

numeral_more : (n : ℕ) (ds : List ℕ) → 10 ≤ n → Numeral (n / 10) ds → Numeral n (ds ++ (48 + n % 10) ∷ [])
numeral_more n ds big d = record {
  on = λ rest. ap (digits_on 0) (append_assoc ds ((48 + n % 10) ∷ []) rest) ∙ d.on ((48 + n % 10) ∷ rest)
      ∙ on_digit (n / 10) (48 + n % 10) rest (digit_test (48 + n % 10) (omega arith) (omega arith)) ∙ ap (λ k. digits_on k rest) (let e : n / 10 * 10 + (48 + n % 10 - 48) ≡ n = omega arith in e);
  first = d.first;
  others = d.others ++ (48 + n % 10) ∷ [];
  is = ap (λ l. l ++ (48 + n % 10) ∷ []) d.is;
  lead = λ k. d.lead (omega (arith, big));
  zero_is = λ k. absurd (omega (arith, big, k));
}

numeral : (n : ℕ) → Numeral n (number n)
numeral = by_steps Numeral (record { one = numeral_one; more = numeral_more })

read_numeral : (n : ℕ) (b : ℕ) (bs : List ℕ) → digits_on 0 (b ∷ bs) ≡ Some n → (1 ≤ n → (b == 48) ≡ false) → (n ≡ 0 → bs ≡ []) → number_of (b ∷ bs) ≡ Some n
unfolding number_of
read_numeral n b [] e lead z = e
read_numeral zero b (c ∷ bs) e lead z = absurd (let w : c ∷ bs ≡ [] = z refl in cc)
read_numeral (suc n) b (c ∷ bs) e lead z = ap (λ t. if t then None else digits_on 0 (b ∷ c ∷ bs)) (lead (omega arith)) ∙ e

pub number_read : (n : ℕ) → number_of (number n) ≡ Some n
number_read n =
    let d = numeral n in
    let w : digits_on 0 (number n ++ []) ≡ Some n = d.on [] in
    let nil : number n ++ [] ≡ number n = append-nil (number n) in
    let v : digits_on 0 (d.first ∷ d.others) ≡ Some n = ap (digits_on 0) (sym d.is) ∙ ap (digits_on 0) (sym nil) ∙ w in
    ap number_of d.is ∙ read_numeral n d.first d.others v d.lead d.zero_is

-- digits behind a number that isn't 0 go on with it
goes_on : (a n : ℕ) (ds : List ℕ) → 1 ≤ a → digits_on a ds ≡ Some n → number a ++ ds ≡ number n
goes_on a n [] h e = append-nil (number a) ∙ ap number (some_same a n e)
goes_on a n (d ∷ ds) h e =
    let p = on_some a d n ds e in
    let r = digit_range d p.0 in
    let m : ℕ = a * 10 + (d - 48) in
    let q : (a * 10 + (d - 48)) / 10 ≡ a = omega (arith, r.0, r.1) in
    let t : 48 + (a * 10 + (d - 48)) % 10 ≡ d = omega (arith, r.0, r.1) in
    let s : number (a * 10 + (d - 48)) ≡ number a ++ d ∷ [] = number_step (a * 10 + (d - 48)) (omega (arith, h)) ∙ ap (λ k. number k ++ (48 + (a * 10 + (d - 48)) % 10) ∷ []) q ∙ ap (λ k. number a ++ k ∷ []) t in
    sym (append_assoc (number a) (d ∷ []) ds) ∙ ap (λ l. l ++ ds) (sym s) ∙ goes_on (a * 10 + (d - 48)) n ds (omega (arith, h)) p.1

one_digit : (b n : ℕ) → digits_on 0 (b ∷ []) ≡ Some n → b ∷ [] ≡ number n
one_digit b n e =
    let p = on_some 0 b n [] e in
    let r = digit_range b p.0 in
    let k : 0 * 10 + (b - 48) ≡ n = some_same (0 * 10 + (b - 48)) n p.1 in
    sym (number_digit n (omega (arith, k, r.0, r.1)) ∙ ap (λ x. x ∷ []) (let t : 48 + n ≡ b = omega (arith, k, r.0, r.1) in t))

pub number_found : (w : List ℕ) (n : ℕ) → number_of w ≡ Some n → w ≡ number n
unfolding number_of
number_found [] n e = absurd cc
number_found (b ∷ []) n e = one_digit b n e
number_found (b ∷ c ∷ bs) n e = by_test (b == 48) refl e
  where
    by_test : (t : Bool) → (b == 48) ≡ t → (if t then None else digits_on 0 (b ∷ c ∷ bs)) ≡ Some n → b ∷ c ∷ bs ≡ number n
    by_test true h e = absurd cc
    by_test false h e =
        let p = on_some 0 b n (c ∷ bs) e in
        let r = digit_range b p.0 in
        let some : 1 ≤ 0 * 10 + (b - 48) = grind (arith, nat_tests, r.0, h) in
        let first : number (0 * 10 + (b - 48)) ≡ b ∷ [] = number_digit (0 * 10 + (b - 48)) (omega (arith, r.1)) ∙ ap (λ x. x ∷ []) (let t : 48 + (0 * 10 + (b - 48)) ≡ b = omega (arith, r.0) in t) in
        ap (λ l. l ++ c ∷ bs) (sym first) ∙ goes_on (0 * 10 + (b - 48)) n (c ∷ bs) some p.1

pub number_one : (m n : ℕ) → number m ≡ number n → m ≡ n
number_one m n e = some_same m n (sym (number_read m) ∙ ap number_of e ∙ number_read n)

-- ---- the bytes of a number

not_digit : (byte b : ℕ) → is_digit byte ≡ false → is_digit b ≡ true → (b == byte) ≡ false
not_digit byte b h k = by_test (b == byte) refl
  where
    by_test : (t : Bool) → (b == byte) ≡ t → t ≡ false
    by_test true e = absurd (true_false (is_digit byte) (ap is_digit (sym (let s : b ≡ byte = grind (arith, nat_tests, e) in s)) ∙ k) h)
    by_test false e = refl

on_free : (byte a n : ℕ) (ds : List ℕ) → is_digit byte ≡ false → digits_on a ds ≡ Some n → Free byte ds
on_free byte a n [] h e = refl
on_free byte a n (d ∷ ds) h e = let p = on_some a d n ds e in free_cons byte d ds (not_digit byte d h p.0) (on_free byte (a * 10 + (d - 48)) n ds h p.1)

pub number_free : (byte n : ℕ) → is_digit byte ≡ false → Free byte (number n)
number_free byte n h =
    let d = numeral n in
    on_free byte 0 n (number n) h (ap (digits_on 0) (sym (append-nil (number n))) ∙ d.on [])
