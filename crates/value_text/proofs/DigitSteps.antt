-- Small numbers in decimal, digit by digit.
use Rattle.std.proofs.Common.{◌≡◌, ℕ, ◌+◌, ◌/◌, ◌%◌, ◌<◌, ◌≤◌, false, List, [], ◌∷◌, ◌++◌, sym, ap, ◌∙◌, arith}
use Rattle.std.specs.Prelude.{decimal, unsigned_abs, ℤ, pos, negsuc}
use Rattle.std.specs.Fmt.{signed_decimal}
use Rattle.std.specs.Int.{is_negative}
use Rattle.std.proofs.lemmas.Fmt.{decimal_digit, decimal_step}

pub one_digit : (n : ℕ) (old new : List ℕ) → n < 10 → new ≡ old ++ (48 + n) ∷ [] → new ≡ old ++ decimal n
one_digit n old new h e = e ∙ ap (λ l. old ++ l) (sym (decimal_digit n h))

two : (n : ℕ) → 10 ≤ n → n < 100 → decimal n ≡ (48 + n / 10) ∷ (48 + n % 10) ∷ []
two n h k = decimal_step n h (omega (arith, k)) ∙ ap (λ l. l ++ (48 + n % 10) ∷ []) (decimal_digit (n / 10) (omega (arith, k)))

pub two_digits : (n : ℕ) (old new : List ℕ) → 10 ≤ n → n < 100 → new ≡ old ++ (48 + n / 10) ∷ (48 + n % 10) ∷ [] → new ≡ old ++ decimal n
two_digits n old new h k e = e ∙ ap (λ l. old ++ l) (sym (two n h k))

three : (n : ℕ) → 100 ≤ n → n < 1000 → decimal n ≡ (48 + n / 100) ∷ (48 + n / 10 % 10) ∷ (48 + n % 10) ∷ []
three n h k =
    decimal_step n (omega (arith, h)) (omega (arith, k))
    ∙ ap (λ l. l ++ (48 + n % 10) ∷ []) (two (n / 10) (omega (arith, h)) (omega (arith, k)))
    ∙ ap (λ m. (48 + m) ∷ (48 + n / 10 % 10) ∷ (48 + n % 10) ∷ []) (let e : n / 10 / 10 ≡ n / 100 = omega arith in e)

pub three_digits : (n : ℕ) (old new : List ℕ) → 100 ≤ n → n < 1000 → new ≡ old ++ (48 + n / 100) ∷ (48 + n / 10 % 10) ∷ (48 + n % 10) ∷ []
    → new ≡ old ++ decimal n
three_digits n old new h k e = e ∙ ap (λ l. old ++ l) (sym (three n h k))

pub plain_text : (z : ℤ) (n : ℕ) (old new : List ℕ) → is_negative z ≡ false → n ≡ unsigned_abs z → new ≡ old ++ decimal n → new ≡ old ++ signed_decimal z
plain_text (pos k) n old new h e f = f ∙ ap (λ m. old ++ decimal m) e
plain_text (negsuc k) n old new h e f = absurd cc
