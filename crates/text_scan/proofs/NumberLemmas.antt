-- Reading decimal digits from the left gives the value that their places give.
use Rattle.std.proofs.Common.{◌≡◌, ℕ, suc, zero, ◌+◌, ◌-◌, ◌*◌, ◌^◌, ◌<◌, ◌≤◌, true, List, [], ◌∷◌, length, get_or, drop, sym, refl, ap, ◌∙◌, arith}
use Rattle.std.specs.List.{list_all}
use Rattle.std.specs.Char.{is_ascii_digit}
use Rattle.std.proofs.lemmas.Bool.{and_parts}
use Rattle.std.proofs.lemmas.Bool.Decides.{nat_tests}
use Rattle.std.proofs.lemmas.List.{drop_more, drop_all}
use Rattle.std.proofs.Math.Nat.{pow-succ'}
use Rattle.text_scan.specs.Forms.{is_number_token, number_value}

-- The first `i` digits have this value, which is at most `most`: the places of the others make it the whole number.
pub record NumberRead (most : ℕ) (digits : List ℕ) (i value : ℕ) : Type 0 where
  pub small : value ≤ most
  pub others : list_all is_ascii_digit (drop i digits) ≡ true
  pub whole : value * 10 ^ length (drop i digits) + number_value (drop i digits) ≡ number_value digits

-- the same as one word, which tactics don't look into
unfoldable pub NumberSoFar : ℕ → List ℕ → ℕ → ℕ → Type 0
NumberSoFar most digits i value = NumberRead most digits i value

digits_of_number : (digits : List ℕ) → is_number_token digits ≡ true → list_all is_ascii_digit digits ≡ true
digits_of_number [] number = refl
digits_of_number (d ∷ digits) number = number

pub number_begins : (most : ℕ) (digits : List ℕ) → is_number_token digits ≡ true → NumberSoFar most digits 0 0
unfolding NumberSoFar
number_begins most digits number = record { small = omega arith; others = digits_of_number digits number; whole = omega arith }

shifted : (value e p v : ℕ) → value * (10 * p) + (e * p + v) ≡ (10 * value + e) * p + v
shifted value e p v = omega arith

-- the rest of the number, from one more digit on
one_more_digit : (value d : ℕ) (rest : List ℕ)
    → value * 10 ^ length (d ∷ rest) + number_value (d ∷ rest) ≡ (10 * value + (d - 48)) * 10 ^ length rest + number_value rest
one_more_digit value d rest =
    ap (λ p. value * p + ((d - 48) * 10 ^ length rest + number_value rest)) (pow-succ' 10 (length rest)) ∙ shifted value (d - 48) (10 ^ length rest) (number_value rest)

module _ {most : ℕ} {digits : List ℕ} {i value : ℕ} (far : NumberRead most digits i value) (inside : i < length digits) where
  split : drop i digits ≡ get_or digits i 0 ∷ drop (i + 1) digits
  split = drop_more digits i 0 inside

  parts : (is_ascii_digit (get_or digits i 0) ≡ true) × (list_all is_ascii_digit (drop (i + 1) digits) ≡ true)
  parts = and_parts (is_ascii_digit (get_or digits i 0)) (list_all is_ascii_digit (drop (i + 1) digits)) (ap (list_all is_ascii_digit) (sym split) ∙ far.others)

  next_whole : (10 * value + (get_or digits i 0 - 48)) * 10 ^ length (drop (i + 1) digits) + number_value (drop (i + 1) digits) ≡ number_value digits
  next_whole = sym (one_more_digit value (get_or digits i 0) (drop (i + 1) digits)) ∙ ap (λ xs. value * 10 ^ length xs + number_value xs) (sym split) ∙ far.whole

-- ---- what the loop does

pub digit_is_digit : (most : ℕ) (digits : List ℕ) (i value : ℕ) → NumberSoFar most digits i value → i < length digits → 48 ≤ get_or digits i 0
unfolding NumberSoFar
digit_is_digit most digits i value far inside = let here = (parts far inside).0 in grind (arith, nat_tests)

pub number_goes_on : (most : ℕ) (digits : List ℕ) (i value e : ℕ) → NumberSoFar most digits i value → i < length digits → e ≡ get_or digits i 0 - 48
    → 10 * value + e ≤ most → NumberSoFar most digits (i + 1) (10 * value + e)
unfolding NumberSoFar
number_goes_on most digits i value e far inside is small = record {
  small = small;
  others = (parts far inside).1;
  whole = ap (λ x. (10 * value + x) * 10 ^ length (drop (i + 1) digits) + number_value (drop (i + 1) digits)) is ∙ next_whole far inside;
}

at_least_itself : (n k : ℕ) → n ≤ n * 10 ^ k
at_least_itself n zero = omega arith
at_least_itself n (suc k) = let before = at_least_itself n k in let power = pow-succ' 10 k in let product = ap (λ p. n * p) power in omega (arith, before, product)

pub number_is_above : (most : ℕ) (digits : List ℕ) (i value e : ℕ) → NumberSoFar most digits i value → i < length digits → e ≡ get_or digits i 0 - 48
    → most < 10 * value + e → most < number_value digits
unfolding NumberSoFar
number_is_above most digits i value e far inside is above =
    let whole = next_whole far inside in
    let least = at_least_itself (10 * value + (get_or digits i 0 - 48)) (length (drop (i + 1) digits)) in
    omega (arith, whole, least, above, is)

pub number_ends : (most : ℕ) (digits : List ℕ) (i value : ℕ) → NumberSoFar most digits i value → length digits ≤ i → value ≡ number_value digits
unfolding NumberSoFar
number_ends most digits i value far past =
    let none : value * 10 ^ 0 + 0 ≡ number_value digits = ap (λ xs. value * 10 ^ length xs + number_value xs) (sym (drop_all i digits past)) ∙ far.whole in
    omega (arith, none)

-- for the loop over digits
pub ruleset number_turns = (number_begins, digit_is_digit, number_goes_on, number_is_above, number_ends)
