-- Marks as bits.
use Rattle.std.proofs.Common.{◌≡◌, ℕ, zero, suc, ◌+◌, ◌*◌, ◌/◌, ◌%◌, ◌^◌, ◌≤◌, ◌<◌, Bool, true, false, List, ◌∷◌, length, map, replicate, refl, sym, ap, ◌∙◌, arith, inl, inr}
use Rattle.std.specs.Prelude.{◌==◌, ◌⊎◌, slice_index_or, slice_set}
use Rattle.std.specs.Int.{bit_at, w64}
use Rattle.std.specs.Int.RustNames.{bit_or}
use Rattle.std.specs.List.{range_with_len}
use Rattle.std.proofs.lemmas.Bool.{cases_lt}
use Rattle.std.proofs.lemmas.List.{get_or-replicate, get_or-set_same, get_or-set_other}
use Rattle.std.proofs.lemmas.List.FromFn.{length-map-range_with_len}
use Rattle.std.proofs.lemmas.Nat.Bits.{bit_at_set_same, bit_at_set_other, bit_at-zero}
use Rattle.cell_machine.specs.theory.Counting.{same_or_else}
use Rattle.cell_owners.specs.Marks.{is_marked}
use Rattle.cell_owners.specs.Bits.{bit_of, marks_of}

-- ---- lists of a function's values

get_in : (f : ℕ → Bool) (first count at : ℕ) → at < count → f (first + at) ≡ slice_index_or (map f (range_with_len first count)) at true
get_in f first zero at h = absurd (omega (arith, h))
get_in f first (suc count) zero h = let e : first + 0 ≡ first = omega arith in ap f e
get_in f first (suc count) (suc at) h = let e : first + suc at ≡ first + 1 + at = omega arith in ap f e ∙ get_in f (first + 1) count at (omega (arith, h))

get_past : (f : ℕ → Bool) (first count at : ℕ) → count ≤ at → true ≡ slice_index_or (map f (range_with_len first count)) at true
get_past f first zero at h = refl
get_past f first (suc count) zero h = absurd (omega (arith, h))
get_past f first (suc count) (suc at) h = get_past f (first + 1) count at (omega (arith, h))

same_list : (f g : ℕ → Bool) (first count : ℕ) → ((x : ℕ) → first ≤ x → f x ≡ g x) → map f (range_with_len first count) ≡ map g (range_with_len first count)
same_list f g first zero h = refl
same_list f g first (suc count) h = let p = h first (omega arith) in let q = same_list f g (first + 1) count (λ x k. h x (omega (arith, k))) in λ i. p i ∷ q i

set_in : (f g : ℕ → Bool) (first count at : ℕ) → g (first + at) ≡ true → ((x : ℕ) → (first + at ≡ x → ⊥) → g x ≡ f x)
    → map g (range_with_len first count) ≡ slice_set (map f (range_with_len first count)) at true
set_in f g first zero at here other = refl
set_in f g first (suc count) zero here other =
    let e : first ≡ first + 0 = omega arith in
    let p : g first ≡ true = ap g e ∙ here in
    let q = same_list g f (first + 1) count (λ x k. other x (λ s. absurd (omega (arith, k, s)))) in
    λ i. p i ∷ q i
set_in f g first (suc count) (suc at) here other =
    let e : first + 1 + at ≡ first + suc at = omega arith in
    let p : g first ≡ f first = other first (λ s. absurd (omega (arith, s))) in
    let q = set_in f g (first + 1) count at (ap g e ∙ here) (λ x n. other x (λ s. n (e ∙ s))) in
    λ i. p i ∷ q i

-- ---- marks

pub marks_count : (words : List ℕ) (count : ℕ) → length (marks_of words count) ≡ count
marks_count words count = length-map-range_with_len (bit_of words) 0 count

pub marked_in : (words : List ℕ) (count at : ℕ) (b : Bool) → at < count → b ≡ bit_of words at → b ≡ is_marked (marks_of words count) at
marked_in words count at b h e = let k : at ≡ 0 + at = omega arith in e ∙ ap (bit_of words) k ∙ get_in (bit_of words) 0 count at h

pub marked_past : (words : List ℕ) (count at : ℕ) → count ≤ at → true ≡ is_marked (marks_of words count) at
marked_past words count at h = get_past (bit_of words) 0 count at h

-- no cell has a mark
no_bit : (n at : ℕ) → bit_of (replicate n 0) at ≡ false
no_bit n at = ap (λ w. bit_at w (at % 64) == 1) (none (at / 64) (cases_lt (at / 64) n)) ∙ ap (λ b. b == 1) (bit_at-zero (at % 64))
  where
    past : (n i : ℕ) → n ≤ i → ◌≡◌ {A = ℕ} (slice_index_or (replicate n 0) i 0) 0
    past zero i h = refl
    past (suc n) zero h = absurd (omega (arith, h))
    past (suc n) (suc i) h = past n i (omega (arith, h))

    none : (i : ℕ) → (i < n) ⊎ (n ≤ i) → ◌≡◌ {A = ℕ} (slice_index_or (replicate n 0) i 0) 0
    none i (inl h) = get_or-replicate n i 0 0 h
    none i (inr h) = past n i h

all_open : (f : ℕ → Bool) (first count : ℕ) → ((x : ℕ) → f x ≡ false) → map f (range_with_len first count) ≡ replicate count false
all_open f first zero h = refl
all_open f first (suc count) h = let p = h first in let q = all_open f (first + 1) count h in λ i. p i ∷ q i

pub none_marked : (words : List ℕ) (n count : ℕ) → words ≡ replicate n 0 → marks_of words count ≡ replicate count false
none_marked words n count e = ap (λ ws. marks_of ws count) e ∙ all_open (bit_of (replicate n 0)) 0 count (no_bit n)

-- ---- one more

word_bit : (words new : List ℕ) (at word : ℕ) → at / 64 < length words → word ≡ slice_index_or words (at / 64) 0
    → new ≡ slice_set words (at / 64) (bit_or word (1 * 2 ^ (at % 64) % 2 ^ 64)) → (x : ℕ) → (at ≡ x) ⊎ (at ≡ x → ⊥)
    → (bit_of new at ≡ true) × ((at ≡ x → ⊥) → bit_of new x ≡ bit_of words x)
word_bit words new at word inside is e x which = (here, λ n. by_word n (same_or_else (at / 64) (x / 64)))
  where
    low : at % 64 < 64
    low = omega arith

    y : ℕ
    y = bit_or word (1 * 2 ^ (at % 64) % 2 ^ 64)

    set : slice_index_or new (at / 64) 0 ≡ bit_or word (1 * 2 ^ (at % 64) % 2 ^ 64)
    set = ap (λ ws. slice_index_or ws (at / 64) 0) e ∙ get_or-set_same words (at / 64) (bit_or word (1 * 2 ^ (at % 64) % 2 ^ 64)) 0 inside

    here : bit_of new at ≡ true
    here = ap (λ w. bit_at w (at % 64) == 1) set ∙ ap (λ b. b == 1) (bit_at_set_same w64 word (at % 64) low)

    by_word : (at ≡ x → ⊥) → (at / 64 ≡ x / 64) ⊎ (at / 64 ≡ x / 64 → ⊥) → bit_of new x ≡ bit_of words x
    by_word n (inl q) =
        let other : x % 64 ≡ at % 64 → ⊥ = λ r. n (omega (arith, q, r)) in
        let new_is : slice_index_or new (x / 64) 0 ≡ bit_or word (1 * 2 ^ (at % 64) % 2 ^ 64) = ap (λ i. slice_index_or new i 0) (sym q) ∙ set in
        let old_is : word ≡ slice_index_or words (x / 64) 0 = is ∙ ap (λ i. slice_index_or words i 0) q in
        ap (λ w. bit_at w (x % 64) == 1) new_is ∙ ap (λ b. b == 1) (bit_at_set_other w64 word (at % 64) low (x % 64) other) ∙ ap (λ w. bit_at w (x % 64) == 1) old_is
    by_word n (inr q) =
        ap (λ w. bit_at w (x % 64) == 1) (ap (λ ws. slice_index_or ws (x / 64) 0) e ∙ get_or-set_other words (at / 64) (x / 64) (bit_or word (1 * 2 ^ (at % 64) % 2 ^ 64)) 0 (λ s. q (sym s)))

pub mark_set : (words new : List ℕ) (count at word : ℕ) → at / 64 < length words → word ≡ slice_index_or words (at / 64) 0
    → new ≡ slice_set words (at / 64) (bit_or word (1 * 2 ^ (at % 64) % 2 ^ 64)) → marks_of new count ≡ slice_set (marks_of words count) at true
mark_set words new count at word inside is e =
    let k : 0 + at ≡ at = omega arith in
    set_in (bit_of words) (bit_of new) 0 count at
    (ap (bit_of new) k ∙ (word_bit words new at word inside is e at (inl refl)).0)
    (λ x n. (word_bit words new at word inside is e x (inr (λ s. n (k ∙ s)))).1 (λ s. n (k ∙ s)))
