-- Lines of digits.
use Rattle.std.proofs.Common.{◌≡◌, ℕ, zero, suc, ◌*◌, ◌/◌, ◌%◌, ◌<◌, ◌≤◌, true, false, List, [], ◌∷◌, ◌++◌, length, take, drop, slice_index, inl, inr, refl, sym, ap, ◌∙◌, subst, arith, append-nil, length-append, take-append-drop, length-take-le, take_at, drop_at, le_of_lt}
use Rattle.std.specs.Prelude.{◌==◌, IsTrue, ◌⊎◌}
use Rattle.std.specs.List.{AllPass}
use Rattle.std.proofs.lemmas.List.Elements.{All-head, All-tail}
use Rattle.std.proofs.lemmas.Bool.{cases_eq, cases_lt}
use Rattle.std.proofs.lemmas.Bool.Decides.{nat_tests}
use Rattle.hex.specs.Hex.{encode_lower, encode_with, lower_digits, is_hex_digit, decode_of, IsBytes}
use Rattle.hex.proofs.HexLemmas.{length-encode_with, decode_of-encode_lower, decode_of-ok, decode_of-same}
use Rattle.text_lines.specs.Lines.{IsOneLine}
use Rattle.text_lines.specs.CutLaws.{free_cons}
use Rattle.grail_bundle.specs.Bundles.{wrapped, digit_lines}
use Rattle.grail_bundle.specs.Lines.{hex_lines}
use Rattle.grail_bundle.proofs.Wrapping.{full, fitting}

-- ---- bytes

pub no_bytes : IsBytes []
no_bytes = λ i. omega arith

bytes_more : (x : ℕ) (xs : List ℕ) → x < 256 → IsBytes xs → IsBytes (x ∷ xs)
bytes_more x xs h k zero = h
bytes_more x xs h k (suc i) = k i

pub bytes_left : (xs ys : List ℕ) → IsBytes (xs ++ ys) → IsBytes xs
bytes_left [] ys h = no_bytes
bytes_left (x ∷ xs) ys h = bytes_more x xs (h 0) (bytes_left xs ys (λ k. h (suc k)))

pub bytes_right : (xs ys : List ℕ) → IsBytes (xs ++ ys) → IsBytes ys
bytes_right [] ys h = h
bytes_right (x ∷ xs) ys h = bytes_right xs ys (λ k. h (suc k))

pub bytes_both : (xs ys : List ℕ) → IsBytes xs → IsBytes ys → IsBytes (xs ++ ys)
bytes_both [] ys h k = k
bytes_both (x ∷ xs) ys h k = bytes_more x (xs ++ ys) (h 0) (bytes_both xs ys (λ k. h (suc k)) k)

pub zero_byte : IsBytes (0 ∷ [])
zero_byte = bytes_more 0 [] (omega arith) no_bytes

-- ---- their digits

pub digits_append : (xs ys : List ℕ) → encode_lower (xs ++ ys) ≡ encode_lower xs ++ encode_lower ys
unfolding encode_with
digits_append [] ys = refl
digits_append (x ∷ xs) ys = ap (λ l. slice_index lower_digits (x / 16) ∷ slice_index lower_digits (x % 16) ∷ l) (digits_append xs ys)

pub digits_twice : (xs : List ℕ) → length (encode_lower xs) ≡ 2 * length xs
digits_twice xs = length-encode_with lower_digits xs

pub digits_one : (xs ys : List ℕ) → IsBytes xs → IsBytes ys → encode_lower xs ≡ encode_lower ys → xs ≡ ys
digits_one xs ys h k e = decode_of-same (encode_lower xs) xs ys (decode_of-encode_lower xs h) (ap decode_of e ∙ decode_of-encode_lower ys k)

no_feed : (c : ℕ) → IsTrue (is_hex_digit c) → (c == 10) ≡ false
no_feed c h =
    elim (cases_eq c 10) [
      | inl e ↦ let f : is_hex_digit 10 ≡ true = subst (λ c. is_hex_digit c ≡ true) e h in absurd cc
      | inr n ↦ grind (arith, nat_tests, n)
    ]

digits_free : (ds : List ℕ) → AllPass is_hex_digit ds → IsOneLine ds
digits_free [] h = refl
digits_free (d ∷ ds) h = free_cons 10 d ds (no_feed d (All-head (λ c. IsTrue (is_hex_digit c)) d ds h)) (digits_free ds (All-tail (λ c. IsTrue (is_hex_digit c)) d ds h))

pub digits_line : (xs : List ℕ) → IsBytes xs → IsOneLine (encode_lower xs)
digits_line xs h = digits_free (encode_lower xs) (decode_of-ok (encode_lower xs) xs (decode_of-encode_lower xs h)).1

-- ---- their lines

hex_some : (xs : List ℕ) → 1 ≤ length xs → hex_lines xs ≡ digit_lines (encode_lower xs)
hex_some [] h = absurd (omega arith)
hex_some (x ∷ xs) h = refl

short_digits : (xs : List ℕ) → length xs ≤ 32 → digit_lines (encode_lower xs) ≡ encode_lower xs ++ 10 ∷ []
unfolding digit_lines
short_digits xs h = fitting 64 (encode_lower xs) (omega (arith, digits_twice xs))

full_digits : (xs ys : List ℕ) → length xs ≡ 32 → 1 ≤ length ys → digit_lines (encode_lower (xs ++ ys)) ≡ encode_lower xs ++ 10 ∷ digit_lines (encode_lower ys)
unfolding digit_lines
full_digits xs ys h k =
    let size : length (encode_lower xs) ≡ 64 = omega (arith, digits_twice xs) in
    let cut = full 64 (encode_lower xs ++ encode_lower ys) (omega (arith, length-append (encode_lower xs) (encode_lower ys), digits_twice ys)) in
    ap (wrapped 64) (digits_append xs ys) ∙ cut
    ∙ ap (λ l. l ++ 10 ∷ wrapped 64 (drop 64 (encode_lower xs ++ encode_lower ys))) (take_at (encode_lower xs) (encode_lower ys) 64 size)
    ∙ ap (λ l. encode_lower xs ++ 10 ∷ wrapped 64 l) (drop_at (encode_lower xs) (encode_lower ys) 64 size)

-- a line that isn't full is the last
pub short_line : (xs : List ℕ) → 1 ≤ length xs → length xs ≤ 32 → hex_lines xs ≡ encode_lower xs ++ 10 ∷ []
short_line xs h k = hex_some xs h ∙ short_digits xs k

-- a full line, and those of the other bytes
pub full_line : (xs ys : List ℕ) → length xs ≡ 32 → hex_lines (xs ++ ys) ≡ encode_lower xs ++ 10 ∷ hex_lines ys
full_line xs [] h = ap hex_lines (append-nil xs) ∙ short_line xs (omega arith) (omega arith)
full_line xs (y ∷ ys) h = hex_some (xs ++ y ∷ ys) (omega (arith, length-append xs (y ∷ ys))) ∙ full_digits xs (y ∷ ys) h (omega arith)

-- the bytes of the first line, and the others
pub record Cut (xs : List ℕ) : Type 0 where
  pub front : List ℕ
  pub rest : List ℕ
  pub is : xs ≡ front ++ rest
  pub some : 1 ≤ length front
  pub few : length front ≤ 32
  pub short : length front < 32 → rest ≡ []
  pub lines : hex_lines xs ≡ encode_lower front ++ 10 ∷ hex_lines rest

pub cut_of : (xs : List ℕ) → 1 ≤ length xs → Cut xs
cut_of xs h = by_size (cases_lt 32 (length xs))
  where
    by_size : (32 < length xs) ⊎ (length xs ≤ 32) → Cut xs
    by_size (inr k) = record { front = xs; rest = []; is = sym (append-nil xs); some = h; few = k; short = λ _. refl; lines = short_line xs h k }
    by_size (inl k) = record {
      front = take 32 xs;
      rest = drop 32 xs;
      is = sym (take-append-drop 32 xs);
      some = omega (arith, length-take-le 32 xs (le_of_lt k));
      few = omega (arith, length-take-le 32 xs (le_of_lt k));
      short = λ less. absurd (omega (arith, length-take-le 32 xs (le_of_lt k)));
      lines = ap hex_lines (sym (take-append-drop 32 xs)) ∙ full_line (take 32 xs) (drop 32 xs) (length-take-le 32 xs (le_of_lt k));
    }
