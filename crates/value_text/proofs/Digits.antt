-- Fronts of numbers in decimal.
use Rattle.std.proofs.Common.{◌≡◌, ℕ, zero, suc, ◌+◌, ◌-◌, ◌*◌, ◌/◌, ◌%◌, ◌^◌, ◌<◌, ◌≤◌, true, false, List, [], ◌∷◌, ◌++◌, length, take, drop, get_or, refl, sym, ap, ◌∙◌, subst, arith, add-one, append_assoc, append-nil, length-append, inl, inr}
use Rattle.std.specs.Prelude.{◌⊎◌, decimal, ℤ, pos, neg_ℤ}
use Rattle.std.specs.List.{list_all}
use Rattle.std.proofs.lemmas.Bool.{cases_lt}
use Rattle.std.proofs.lemmas.Bool.Decides.{nat_tests}
use Rattle.std.proofs.lemmas.Fmt.{decimal_digit, decimal_step, decimal_by_steps, signed_decimal_injective}
use Rattle.std.proofs.lemmas.List.{length-take-le, take_all, take-append-drop, length-drop}
use Rattle.std.proofs.Math.Seq.{take-suc}
use Rattle.std.proofs.Math.Nat.{pow-suc, pow-le-pow_right}
use Rattle.camelot_values.specs.Names.{is_digit}
use Rattle.value_text.specs.Choosing.{DigitsRead, FewDigits, IntRead, IntRefused, NoDigit, NextDigit, IsPlain}
use Rattle.value_text.specs.Grammar.{Ends}
use Rattle.value_text.specs.Splitting.{FrontInt}
use Rattle.value_text.proofs.Words.{and_parts, and_both, true_false, same_tail, word_all}
use Rattle.value_text.proofs.Lives.{decimal_fine}

-- what is written with one byte more ends with it, or with nothing
last_byte : (xs p s : List ℕ) (c : ℕ) → xs ++ c ∷ [] ≡ p ++ s → (s ≡ []) ⊎ ((t : List ℕ) × (s ≡ t ++ c ∷ []) × (xs ≡ p ++ t))
last_byte xs [] s c e = inr (xs, sym e, refl)
last_byte [] (x ∷ p) s c e = inl (none p s (sym (same_tail c x [] (p ++ s) e).1))
  where
    none : (p s : List ℕ) → p ++ s ≡ [] → s ≡ []
    none [] s e = e
    none (y ∷ p) s e = absurd cc
last_byte (y ∷ xs) (x ∷ p) s c e =
    let t = same_tail y x (xs ++ c ∷ []) (p ++ s) e in lift (last_byte xs p s c t.1) t.0
  where
    lift : (s ≡ []) ⊎ ((t : List ℕ) × (s ≡ t ++ c ∷ []) × (xs ≡ p ++ t)) → y ≡ x → (s ≡ []) ⊎ ((t : List ℕ) × (s ≡ t ++ c ∷ []) × (y ∷ xs ≡ (x ∷ p) ++ t))
    lift (inl n) k = inl n
    lift (inr (t, a, b)) k = inr (t, a, ap (λ l. y ∷ l) b ∙ ap (λ z. z ∷ (p ++ t)) k)

-- a front of a number in decimal is a number in decimal
pub record Cut (p s : List ℕ) (n : ℕ) : Type 0 where
  pub m : ℕ
  pub is : p ≡ decimal m
  pub below : m ≤ n
  pub whole : s ≡ [] → m ≡ n
  pub large : (s ≡ [] → ⊥) → 1 ≤ m

pub cut : (k n : ℕ) (p s : List ℕ) → n < k → n < 2 ^ 64 → decimal n ≡ p ++ s → (p ≡ [] → ⊥) → Cut p s n
cut zero n p s h b e q = absurd (omega (arith, h))
cut (suc k) n p s h b e q = by_size (λ t big d. cut k (n / 10) p t (omega (arith, big, h)) (omega (arith, b)) d q) (cases_lt n 10)
  where
    one : (p : List ℕ) → (p ≡ [] → ⊥) → (48 + n) ∷ [] ≡ p ++ s → s ≡ []
    one [] q e = absurd (q refl)
    one (x ∷ []) q e = let t : [] ≡ s = (same_tail (48 + n) x [] s e).1 in sym t
    one (x ∷ y ∷ p) q e = let t : [] ≡ y ∷ (p ++ s) = (same_tail (48 + n) x [] (y ∷ (p ++ s)) e).1 in absurd cc

    all : s ≡ [] → Cut p s n
    all none = record { m = n; is = sym (append-nil p) ∙ ap (λ l. p ++ l) (sym none) ∙ sym e; below = omega arith; whole = λ z. refl; large = λ f. absurd (f none) }

    further : (t : List ℕ) → s ≡ t ++ (48 + n % 10) ∷ [] → 10 ≤ n → Cut p t (n / 10) → Cut p s n
    further t s_is big c = record {
      m = c.m;
      is = c.is;
      below = omega (arith, c.below);
      whole = λ z. absurd (no_end t (48 + n % 10) (sym s_is ∙ z));
      large = λ f. by_rest t c;
    }
      where
        no_end : (t : List ℕ) (c : ℕ) → t ++ c ∷ [] ≡ [] → ⊥
        no_end [] c e = absurd cc
        no_end (x ∷ t) c e = absurd cc

        by_rest : (t : List ℕ) (d : Cut p t (n / 10)) → 1 ≤ d.m
        by_rest [] d = omega (arith, d.whole refl, big)
        by_rest (x ∷ t) d = d.large (λ e. absurd cc)

    by_last : ((t : List ℕ) → 10 ≤ n → decimal (n / 10) ≡ p ++ t → Cut p t (n / 10)) → 10 ≤ n
        → (s ≡ []) ⊎ ((t : List ℕ) × (s ≡ t ++ (48 + n % 10) ∷ []) × (decimal (n / 10) ≡ p ++ t)) → Cut p s n
    by_last f big (inl none) = all none
    by_last f big (inr (t, s_is, d)) = further t s_is big (f t big d)

    by_size : ((t : List ℕ) → 10 ≤ n → decimal (n / 10) ≡ p ++ t → Cut p t (n / 10)) → (n < 10) ⊎ (10 ≤ n) → Cut p s n
    by_size f (inl small) = all (one p q (sym (decimal_digit n small) ∙ e))
    by_size f (inr big) = by_last f big (last_byte (decimal (n / 10)) p s (48 + n % 10) (sym (decimal_step n big b) ∙ e))

pub decimal_one : (m n : ℕ) → m < 2 ^ 63 → n < 2 ^ 63 → decimal m ≡ decimal n → m ≡ n
decimal_one m n a b e = let p : pos m ≡ pos n = signed_decimal_injective (pos m) (pos n) a b e in cc

one_more_digit : (ds : List ℕ) (c : ℕ) → list_all is_digit ds ≡ true → is_digit c ≡ true → list_all is_digit (ds ++ c ∷ []) ≡ true
one_more_digit [] c h k = and_both (is_digit c) true k refl
one_more_digit (d ∷ ds) c h k = let p = and_parts (is_digit d) _ h in and_both (is_digit d) _ p.0 (one_more_digit ds c p.1 k)

digit_is : (n : ℕ) → n < 10 → is_digit (48 + n) ≡ true
digit_is n h = grind (arith, nat_tests, h)

pub decimal_digits : (n : ℕ) → n < 2 ^ 64 → list_all is_digit (decimal n) ≡ true
decimal_digits n h =
    decimal_by_steps (λ n ds. list_all is_digit ds ≡ true) (λ n k. and_both (is_digit (48 + n)) true (digit_is n k) refl) (λ n ds k w. one_more_digit ds (48 + n % 10) w (digit_is (n % 10) (omega arith))) n h

digit_behind : (p : List ℕ) (c : ℕ) (s : List ℕ) → list_all is_digit (p ++ c ∷ s) ≡ true → is_digit c ≡ true
digit_behind [] c s h = (and_parts (is_digit c) _ h).0
digit_behind (x ∷ p) c s h = digit_behind p c s (and_parts (is_digit x) _ h).1

-- ---- steps of the loop that reads digits

-- so many digits were read
pub record Digits (most : ℕ) (word : List ℕ) (value i : ℕ) : Type 0 where
  pub within : i ≤ length word
  pub small : value ≤ most
  pub none : i ≡ 0 → value ≡ 0
  pub text : (i ≡ 0) ⊎ (take i word ≡ decimal value)

pub no_digits : (most : ℕ) (word : List ℕ) → Digits most word 0 0
no_digits most word = record { within = omega arith; small = omega arith; none = λ e. refl; text = inl refl }

digit_text : (most : ℕ) (word : List ℕ) (value i c next : ℕ) → Digits most word value i → 48 ≤ c → c ≤ 57 → (i ≡ 0) ⊎ (1 ≤ value)
    → next ≡ value * 10 + (c - 48) → next < 2 ^ 40
    → take i word ++ c ∷ [] ≡ decimal next
digit_text most word value i c next d low high lead next_is wide = by_text lead d.text
  where
    empty : i ≡ 0 → take i word ++ c ∷ [] ≡ decimal next
    empty e =
        let v : value ≡ 0 = d.none e in
        let n : next ≡ c - 48 = omega (arith, next_is, v) in
        let k : 48 + next ≡ c = omega (arith, n, low) in
        ap (λ x. take x word ++ c ∷ []) e ∙ ap (λ x. x ∷ []) (sym k) ∙ sym (decimal_digit next (omega (arith, n, high, low)))

    longer : 1 ≤ value → take i word ≡ decimal value → take i word ++ c ∷ [] ≡ decimal next
    longer v t =
        let q : next / 10 ≡ value = omega (arith, next_is, high, low) in
        let r : 48 + next % 10 ≡ c = omega (arith, next_is, high, low) in
        ap (λ l. l ++ c ∷ []) t ∙ ap (λ x. decimal x ++ c ∷ []) (sym q) ∙ ap (λ x. decimal (next / 10) ++ x ∷ []) (sym r) ∙ sym (decimal_step next (omega (arith, next_is, v)) (omega (arith, wide)))

    by_text : (i ≡ 0) ⊎ (1 ≤ value) → (i ≡ 0) ⊎ (take i word ≡ decimal value) → take i word ++ c ∷ [] ≡ decimal next
    by_text (inl e) t = empty e
    by_text (inr v) (inl e) = empty e
    by_text (inr v) (inr t) = longer v t

pub one_digit_more : (most : ℕ) (word : List ℕ) (value i c next : ℕ) → Digits most word value i → i < length word → c ≡ get_or word i 0 → 48 ≤ c
    → c ≤ 57 → (i ≡ 0) ⊎ (1 ≤ value) → next ≡ value * 10 + (c - 48) → next ≤ most → most < 2 ^ 36
    → Digits most word next (i + 1)
one_digit_more most word value i c next d h is low high lead next_is fit wide = record {
  within = omega (arith, h);
  small = fit;
  none = λ e. absurd (omega (arith, e));
  text = inr (ap (λ n. take n word) (let s : i + 1 ≡ suc i = omega arith in s) ∙ take-suc word i 0 h ∙ ap (λ x. take i word ++ x ∷ []) (sym is) ∙ digit_text most word value i c next d low high lead next_is (omega (arith, fit, wide)));
}

-- a longer front has the digits that were read and the next byte
longer_front : (word front last : List ℕ) (i : ℕ) → word ≡ front ++ last → i < length front → (more : List ℕ) × (front ≡ take i word ++ get_or word i 0 ∷ more)
longer_front word [] last i e h = absurd (omega (arith, h))
longer_front word (x ∷ front) last zero e h = subst (λ w. (more : List ℕ) × (x ∷ front ≡ take 0 w ++ get_or w 0 0 ∷ more)) (sym e) (front, refl)
longer_front word (x ∷ front) last (suc i) e h =
    let r = longer_front (front ++ last) front last i refl (omega (arith, h)) in
    subst (λ w. (more : List ℕ) × (x ∷ front ≡ take (suc i) w ++ get_or w (suc i) 0 ∷ more)) (sym e) (r.0, ap (λ l. x ∷ l) r.1)

pub all_digits : (most : ℕ) (word : List ℕ) (value i : ℕ) → Digits most word value i → length word ≤ i → DigitsRead most word value i
all_digits most word value i d h = record {
  within = d.within;
  small = d.small;
  text = d.text;
  longest = λ n front last rest k e g. omega (arith, h, ap length e, length-append front last);
}

-- reading stops at the next byte: no digit, one behind a leading zero, or one that makes the number too large
pub record Further (most : ℕ) (word : List ℕ) (i : ℕ) : Type 0 where
  pub dead : (n : ℕ) (more : List ℕ) → n ≤ most → decimal n ≡ take i word ++ get_or word i 0 ∷ more → ⊥

pub stops_there : (most : ℕ) (word : List ℕ) (value i : ℕ) → Digits most word value i → Further most word i → DigitsRead most word value i
stops_there most word value i d f = record {
  within = d.within;
  small = d.small;
  text = d.text;
  longest = λ n front last rest k e g. by_length n front last rest k e g (cases_lt i (length front));
}
  where
    by_length : (n : ℕ) (front last rest : List ℕ) → n ≤ most → word ≡ front ++ last → decimal n ≡ front ++ rest
        → (i < length front) ⊎ (length front ≤ i) → length front ≤ i
    by_length n front last rest k e g (inr h) = h
    by_length n front last rest k e g (inl h) =
        let (more, is) = longer_front word front last i e h in
        absurd (f.dead n (more ++ rest) k (g ∙ ap (λ l. l ++ rest) is ∙ append_assoc (take i word) (get_or word i 0 ∷ more) rest))

pub no_digit : (most : ℕ) (word : List ℕ) (i c : ℕ) → most < 2 ^ 32 → c ≡ get_or word i 0 → is_digit c ≡ false → Further most word i
no_digit most word i c wide is h = record {
  dead = λ n more k e.
      let a : is_digit (get_or word i 0) ≡ true = digit_behind (take i word) (get_or word i 0) more (subst (λ l. list_all is_digit l ≡ true) e (decimal_digits n (omega (arith, k, wide)))) in
      true_false (is_digit c) (ap is_digit is ∙ a) h;
}

some_text : (word : List ℕ) (i : ℕ) → 1 ≤ i → i < length word → take i word ≡ [] → ⊥
some_text word i some h e = absurd (omega (arith, some, h, ap length e, length-take-le i word (omega (arith, h))))

pub leading_zero : (most : ℕ) (word : List ℕ) (value i : ℕ) → most < 2 ^ 32 → Digits most word value i → i < length word → 1 ≤ i → value ≡ 0
    → Further most word i
leading_zero most word value i wide d h some zero_is = record {
  dead = λ n more k e.
      let c = cut (suc n) n (take i word) (get_or word i 0 ∷ more) (omega arith) (omega (arith, k, wide)) e (some_text word i some h) in
      let m : c.m ≡ value = decimal_one c.m value (omega (arith, c.below, k, wide)) (omega (arith, zero_is)) (sym c.is ∙ by_text d.text) in
      absurd (omega (arith, m, zero_is, c.large (λ q. absurd cc)));
}
  where
    by_text : (i ≡ 0) ⊎ (take i word ≡ decimal value) → take i word ≡ decimal value
    by_text (inl e) = absurd (omega (arith, e, some))
    by_text (inr t) = t

pub too_large : (most : ℕ) (word : List ℕ) (value i c next : ℕ) → most < 2 ^ 32 → Digits most word value i → i < length word → c ≡ get_or word i 0
    → 48 ≤ c → c ≤ 57 → (i ≡ 0) ⊎ (1 ≤ value) → next ≡ value * 10 + (c - 48) → most < next → Further most word i
too_large most word value i c next wide d h is low high lead next_is large = record {
  dead = λ n more k e.
      let small : value ≤ most = d.small in
      let wide_next : next < 2 ^ 36 = omega (arith, next_is, small, wide, high) in
      let p : take i word ++ get_or word i 0 ∷ [] ≡ decimal next = ap (λ x. take i word ++ x ∷ []) (sym is) ∙ digit_text most word value i c next d low high lead next_is (omega (arith, wide_next)) in
      let g : decimal n ≡ (take i word ++ get_or word i 0 ∷ []) ++ more = e ∙ sym (append_assoc (take i word) (get_or word i 0 ∷ []) more) in
      let q = cut (suc n) n (take i word ++ get_or word i 0 ∷ []) more (omega arith) (omega (arith, k, wide)) g (not_nothing (take i word) (get_or word i 0)) in
      let m : q.m ≡ next = decimal_one q.m next (omega (arith, q.below, k, wide)) (omega (arith, wide_next)) (sym q.is ∙ p) in
      absurd (omega (arith, m, q.below, k, large));
}
  where
    not_nothing : (xs : List ℕ) (c : ℕ) → xs ++ c ∷ [] ≡ [] → ⊥
    not_nothing [] c e = absurd cc
    not_nothing (x ∷ xs) c e = absurd cc

pub digit_range : (c : ℕ) → is_digit c ≡ true → (48 ≤ c) × (c ≤ 57)
digit_range c h = (grind (arith, nat_tests, h), grind (arith, nat_tests, h))

pub not_digit : (most value at byte : ℕ) → is_digit byte ≡ false → NoDigit most value at byte
not_digit most value at byte h = record { why = inl h }

pub behind_zero : (most value at byte : ℕ) → (at ≡ 0 → ⊥) → value ≡ 0 → NoDigit most value at byte
behind_zero most value at byte h z = record { why = inr (inl (omega (arith, h), z)) }

pub above_most : (most value at byte : ℕ) → is_digit byte ≡ true → most < value * 10 + (byte - 48) → NoDigit most value at byte
above_most most value at byte h k = record { why = inr (inr (h, k)) }

pub next_first : (most value at byte next : ℕ) → is_digit byte ≡ true → at ≡ 0 → next ≡ value * 10 + (byte - 48) → next ≤ most
    → NextDigit most value at byte next
next_first most value at byte next h z is fit = record { digit = h; lead = inl z; is = is; fit = fit }

pub next_later : (most value at byte next : ℕ) → is_digit byte ≡ true → (value ≡ 0 → ⊥) → next ≡ value * 10 + (byte - 48) → next ≤ most
    → NextDigit most value at byte next
next_later most value at byte next h z is fit = record { digit = h; lead = inr (omega (arith, z)); is = is; fit = fit }

pub digits_on : (most : ℕ) (word : List ℕ) (value at next : ℕ) → most < 4294967296 → Digits most word value at → at < length word
    → NextDigit most value at (get_or word at 0) next → Digits most word next (at + 1)
digits_on most word value at next wide d h n =
    let r = digit_range (get_or word at 0) n.digit in one_digit_more most word value at (get_or word at 0) next d h refl r.0 r.1 n.lead n.is n.fit (omega (arith, wide))

pub digits_off : (most : ℕ) (word : List ℕ) (value at : ℕ) → most < 4294967296 → Digits most word value at → at < length word
    → NoDigit most value at (get_or word at 0) → DigitsRead most word value at
digits_off most word value at wide d h n = stops_there most word value at d (why n.why)
  where
    lead : (at ≡ 0) ⊎ (1 ≤ value) → (is_digit (get_or word at 0) ≡ true) → most < value * 10 + (get_or word at 0 - 48) → Further most word at
    lead l t k = let r = digit_range (get_or word at 0) t in too_large most word value at (get_or word at 0) (value * 10 + (get_or word at 0 - 48)) (omega (arith, wide)) d h refl r.0 r.1 l refl k

    zero_or : (v a : ℕ) → ((a ≡ 0) ⊎ (1 ≤ v)) ⊎ ((1 ≤ a) × (v ≡ 0))
    zero_or v zero = inl (inl refl)
    zero_or zero (suc a) = inr (omega arith, refl)
    zero_or (suc v) (suc a) = inl (inr (omega arith))

    by_lead : is_digit (get_or word at 0) ≡ true → most < value * 10 + (get_or word at 0 - 48) → ((at ≡ 0) ⊎ (1 ≤ value)) ⊎ ((1 ≤ at) × (value ≡ 0))
        → Further most word at
    by_lead t k (inl l) = lead l t k
    by_lead t k (inr p) = leading_zero most word value at (omega (arith, wide)) d h p.0 p.1

    why : (is_digit (get_or word at 0) ≡ false)
        ⊎ (((1 ≤ at) × (value ≡ 0)) ⊎ ((is_digit (get_or word at 0) ≡ true) × (most < value * 10 + (get_or word at 0 - 48)))) → Further most word at
    why (inl f) = no_digit most word at (get_or word at 0) (omega (arith, wide)) refl f
    why (inr (inl p)) = leading_zero most word value at (omega (arith, wide)) d h p.0 p.1
    why (inr (inr p)) = by_lead p.0 p.1 (zero_or value at)

-- ---- ints

all_taken : (word : List ℕ) (value good most : ℕ) → DigitsRead most word value good → length word ≤ good → (good ≡ 0 → ⊥) → word ≡ decimal value
all_taken word value good most d all some = by_text d.text
  where
    by_text : (good ≡ 0) ⊎ (take good word ≡ decimal value) → word ≡ decimal value
    by_text (inl e) = absurd (some e)
    by_text (inr e) = sym (take_all good word all) ∙ e

pub plus_read : (word : List ℕ) (value good : ℕ) (z : ℤ) → DigitsRead 2147483647 word value good → length word ≤ good → (good ≡ 0 → ⊥)
    → z ≡ pos value → IntRead word z
plus_read word value good z d all some is = record { size = value; is = inl (d.small, all_taken word value good 2147483647 d all some, is) }

pub minus_read : (digits : List ℕ) (value good : ℕ) (z : ℤ) → DigitsRead 2147483648 digits value good → length digits ≤ good → (good ≡ 0 → ⊥)
    → z ≡ neg_ℤ (pos value) → IntRead (45 ∷ digits) z
minus_read digits value good z d all some is = record { size = value; is = inr (d.small, ap (λ l. 45 ∷ l) (all_taken digits value good 2147483648 d all some), is) }

pub plus_part : (word : List ℕ) (value good : ℕ) → DigitsRead 2147483647 word value good → good < length word → IsPlain word → IntRefused word good
plus_part word value good d part plain = record { digits = word; value = value; count = good; part = λ e. absurd (omega (arith, e, part)); is = inl (refl, refl, d, plain) }

pub plus_none : (word : List ℕ) (value good : ℕ) → DigitsRead 2147483647 word value good → good ≡ 0 → IsPlain word → IntRefused word 0
plus_none word value good d none plain = record { digits = word; value = value; count = good; part = λ e. none; is = inl (refl, sym none, d, plain) }

pub minus_part : (digits : List ℕ) (value good : ℕ) → DigitsRead 2147483648 digits value good → good < length digits → IntRefused (45 ∷ digits) (good + 1)
minus_part digits value good d part = record { digits = digits; value = value; count = good; part = λ e. absurd (omega (arith, e, part)); is = inr (refl, refl, d) }

pub minus_none : (digits : List ℕ) (value good : ℕ) → DigitsRead 2147483648 digits value good → good ≡ 0 → IntRefused (45 ∷ digits) 1
minus_none digits value good d none = record { digits = digits; value = value; count = good; part = λ e. none; is = inr (refl, omega (arith, none), d) }

pub empty_refused : (word : List ℕ) → length word ≡ 0 → IntRefused word 0
empty_refused [] h = record {
  digits = [];
  value = 0;
  count = 0;
  part = λ e. refl;
  is = inl (refl, refl, record { within = omega arith; small = omega arith; text = inl refl; longest = λ n front last rest k e g. omega (arith, ap length e, length-append front last) }, record { head = λ rest e. absurd cc });
}
empty_refused (x ∷ word) h = absurd (omega (arith, h))

pub minus_tail : (word digits : List ℕ) → (length word ≡ 0 → ⊥) → get_or word 0 0 ≡ 45 → digits ≡ take (length word - 1) (drop 1 word) → 45 ∷ digits ≡ word
minus_tail [] digits h is e = absurd (h refl)
minus_tail (x ∷ word) digits h is e = ap (λ l. 45 ∷ l) (e ∙ take_all (length (x ∷ word) - 1) word (omega arith)) ∙ ap (λ y. y ∷ word) (sym is)

pub plain_head : (word : List ℕ) → (get_or word 0 0 ≡ 45 → ⊥) → IsPlain word
plain_head word n = record { head = λ rest e. n (ap (λ l. get_or l 0 0) e) }

-- ---- ints that are read at once

-- so many digits of a number without a leading zero were read
pub record Begun (word : List ℕ) (value at : ℕ) : Type 0 where
  pub digits : Digits 9999999999 word value at
  pub first : is_digit (get_or word 0 0) ≡ true
  pub lead : 1 ≤ value
  pub below : value < 10 ^ at

pub zero_alone : (word : List ℕ) → (length word ≡ 0 → ⊥) → get_or word 0 0 ≡ 48 → FewDigits word 0 1
zero_alone [] h e = absurd (h refl)
zero_alone (c ∷ word) h e = record { within = omega arith; first = ap is_digit e; text = ap (λ x. x ∷ []) e ∙ sym (decimal_digit 0 (omega arith)) }

pub begun_one : (word : List ℕ) (value : ℕ) → (length word ≡ 0 → ⊥) → is_digit (get_or word 0 0) ≡ true → (get_or word 0 0 ≡ 48 → ⊥)
    → value ≡ get_or word 0 0 - 48 → Begun word value 1
begun_one word value h digit some is =
    let r = digit_range (get_or word 0 0) digit in
    record {
      digits = one_digit_more 9999999999 word 0 0 (get_or word 0 0) value (no_digits 9999999999 word) (omega (arith, h)) refl r.0 r.1 (inl refl) (omega (arith, is)) (omega (arith, is, r.1)) (omega arith);
      first = digit;
      lead = omega (arith, is, r.0, some);
      below = omega (arith, is, r.1);
    }

pub begun_small : (word : List ℕ) (value at : ℕ) → Begun word value at → at < 10 → value < 1000000000
begun_small word value at b h = omega (arith, b.below, pow-le-pow_right {n = 10} (omega arith) {i = at} {j = 9} (omega (arith, h)))

pub begun_more : (word : List ℕ) (value at next : ℕ) → Begun word value at → at < length word → at < 10 → is_digit (get_or word at 0) ≡ true
    → next ≡ value * 10 + (get_or word at 0 - 48) → Begun word next (at + 1)
begun_more word value at next b h few digit is =
    let r = digit_range (get_or word at 0) digit in
    let small = begun_small word value at b few in
    let more : 10 ^ (at + 1) ≡ 10 ^ at * 10 = ap (λ n. 10 ^ n) (add-one at) ∙ pow-suc 10 at in
    record {
      digits = one_digit_more 9999999999 word value at (get_or word at 0) next b.digits h refl r.0 r.1 (inr b.lead) is (omega (arith, is, r.1, small)) (omega arith);
      first = b.first;
      lead = omega (arith, is, b.lead);
      below = omega (arith, is, r.1, b.below, more);
    }

pub begun_all : (word : List ℕ) (value at : ℕ) → Begun word value at → 1 ≤ at → FewDigits word value at
begun_all word value at b some = record { within = b.digits.within; first = b.first; text = by_text b.digits.text }
  where
    by_text : (at ≡ 0) ⊎ (take at word ≡ decimal value) → take at word ≡ decimal value
    by_text (inl e) = absurd (omega (arith, e, some))
    by_text (inr e) = e

-- the digits in front of a text are a word, where it ends with them
pub front_digits : (text rest : List ℕ) (value good : ℕ) (z : ℤ) → FewDigits text value good → value ≤ 2147483647
    → rest ≡ take (length text - good) (drop good text) → Ends rest → z ≡ pos value → FrontInt text z rest
front_digits text rest value good z d small is ends z_is =
    let word = d.text in
    let r : rest ≡ drop good text = is ∙ take_all (length text - good) (drop good text) (omega (arith, length-drop good text)) in
    record {
      word = decimal value;
      split = record {
        parts = sym (ap (λ l. l ++ rest) (sym word) ∙ ap (λ l. take good text ++ l) r ∙ take-append-drop good text);
        all = word_all (decimal value) (decimal_fine value (omega (arith, small)));
        ends = ends;
      };
      read = record { size = value; is = inl (small, refl, z_is) };
    }

-- the same with `-` before them
pub front_below : (digits rest : List ℕ) (value good : ℕ) (z : ℤ) → FewDigits digits value good → value ≤ 2147483648
    → rest ≡ take (length digits - good) (drop good digits) → Ends rest → z ≡ neg_ℤ (pos value) → FrontInt (45 ∷ digits) z rest
front_below digits rest value good z d small is ends z_is =
    let word = d.text in
    let r : rest ≡ drop good digits = is ∙ take_all (length digits - good) (drop good digits) (omega (arith, length-drop good digits)) in
    record {
      word = 45 ∷ decimal value;
      split = record {
        parts = ap (λ l. 45 ∷ l) (sym (ap (λ l. l ++ rest) (sym word) ∙ ap (λ l. take good digits ++ l) r ∙ take-append-drop good digits));
        all = word_all (decimal value) (decimal_fine value (omega (arith, small)));
        ends = ends;
      };
      read = record { size = value; is = inr (small, refl, z_is) };
    }
