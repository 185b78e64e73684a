-- Numbers above all limits are read as one of them.
use Rattle.std.proofs.Common.{◌≡◌, ℕ, suc, ◌+◌, ◌-◌, ◌*◌, ◌<◌, ◌≤◌, Bool, true, false, List, [], ◌∷◌, length, drop, get_or, Option, Some, None, refl, sym, ap, ◌∙◌, arith, drop-cons, drop_of_length-le, add-one, inl, inr}
use Rattle.std.specs.Prelude.{◌⊎◌, ◌==◌, if◌then◌else◌}
use Rattle.std.specs.Option.{option_map}
use Rattle.std.proofs.lemmas.Bool.Decides.{nat_tests}
use Rattle.camelot_values.specs.Names.{is_digit}
use Rattle.text_lines.specs.Cuts.{capped, digits_on, number_of}
use Rattle.text_lines.specs.NumberLaws.{on_digit}

pub capped_small : (n : ℕ) → n ≤ 2199023255552 → capped n ≡ n
capped_small n h = omega (arith, h)

pub capped_le : (n : ℕ) → capped n ≤ 2199023255552
capped_le n = omega arith

capped_twice : (n : ℕ) → capped (capped n) ≡ capped n
capped_twice n = omega arith

capped_digit : (n d : ℕ) → capped (capped n * 10 + d) ≡ capped (n * 10 + d)
capped_digit n d = omega arith

cap_on : (n : ℕ) (bs : List ℕ) → option_map capped (digits_on (capped n) bs) ≡ option_map capped (digits_on n bs)
cap_on n [] = ap Some (capped_twice n)
cap_on n (b ∷ bs) = by_test (is_digit b) (sym (cap_on (capped n * 10 + (b - 48)) bs) ∙ ap (λ k. option_map capped (digits_on k bs)) (capped_digit n (b - 48)) ∙ cap_on (n * 10 + (b - 48)) bs)
  where
    by_test : (t : Bool) → option_map capped (digits_on (capped n * 10 + (b - 48)) bs) ≡ option_map capped (digits_on (n * 10 + (b - 48)) bs)
        → option_map capped (if t then digits_on (capped n * 10 + (b - 48)) bs else None) ≡ option_map capped (if t then digits_on (n * 10 + (b - 48)) bs else None)
    by_test true h = h
    by_test false h = refl

-- ---- the loop over digits

pub digit_on : (word : List ℕ) (value next at : ℕ) (all : Option ℕ) → at < length word → is_digit (get_or word at 0) ≡ true
    → next ≡ capped (value * 10 + (get_or word at 0 - 48)) → option_map capped (digits_on value (drop at word)) ≡ all
    → option_map capped (digits_on next (drop (at + 1) word)) ≡ all
digit_on word value next at all h d e g =
    ap (λ k. option_map capped (digits_on k (drop (at + 1) word))) e ∙ ap (λ n. option_map capped (digits_on (capped (value * 10 + (get_or word at 0 - 48))) (drop n word))) (add-one at)
    ∙ cap_on (value * 10 + (get_or word at 0 - 48)) (drop (suc at) word) ∙ ap (option_map capped) (sym (ap (digits_on value) (drop-cons word at 0 h) ∙ on_digit value (get_or word at 0) (drop (suc at) word) d)) ∙ g

pub digit_off : (word : List ℕ) (value at : ℕ) (all : Option ℕ) → at < length word → is_digit (get_or word at 0) ≡ false
    → option_map capped (digits_on value (drop at word)) ≡ all → None ≡ all
digit_off word value at all h d g =
    sym (ap (option_map capped) (ap (digits_on value) (drop-cons word at 0 h) ∙ ap (λ t. if t then digits_on (value * 10 + (get_or word at 0 - 48)) (drop (suc at) word) else None) d)) ∙ g

pub digits_done : (word : List ℕ) (value at : ℕ) (all : Option ℕ) → length word ≤ at → value ≤ 2199023255552
    → option_map capped (digits_on value (drop at word)) ≡ all → Some value ≡ all
digits_done word value at all h k g = ap Some (sym (capped_small value k)) ∙ sym (ap (λ l. option_map capped (digits_on value l)) (drop_of_length-le word {i = at} h)) ∙ g

pub first_small : (n : ℕ) (value : ℕ) → value ≡ capped n → value ≤ 2199023255552
first_small n value e = omega (arith, e)

-- ---- the first digit

pub no_digits : (word : List ℕ) → (length word == 0) ≡ true → None ≡ option_map capped (number_of word)
unfolding number_of
no_digits [] h = refl
no_digits (b ∷ word) h = absurd (let t : (suc (length word) == 0) ≡ false = grind (arith, nat_tests) in let e : true ≡ false = sym h ∙ t in cc)

pub leading_zero : (word : List ℕ) → get_or word 0 0 ≡ 48 → 1 < length word → None ≡ option_map capped (number_of word)
unfolding number_of
leading_zero [] e h = refl
leading_zero (b ∷ []) e h = absurd (omega (arith, h))
leading_zero (b ∷ c ∷ word) e h = ap (λ t. option_map capped (if t then None else digits_on 0 (b ∷ c ∷ word))) (let t : true ≡ (b == 48) = grind (arith, nat_tests, e) in t)

pub other_digits : (word : List ℕ) (o : Option ℕ) → (length word == 0) ≡ false → (get_or word 0 0 ≡ 48 → ⊥) ⊎ (length word ≤ 1)
    → o ≡ option_map capped (digits_on 0 word) → o ≡ option_map capped (number_of word)
unfolding number_of
other_digits [] o h k e = absurd cc
other_digits (b ∷ []) o h k e = e
other_digits (b ∷ c ∷ word) o h (inr k) e = absurd (omega (arith, k))
other_digits (b ∷ c ∷ word) o h (inl k) e = e ∙ ap (λ t. option_map capped (if t then None else digits_on 0 (b ∷ c ∷ word))) (let t : false ≡ (b == 48) = grind (arith, nat_tests, k) in t)
