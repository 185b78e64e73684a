-- Sets of numbers as the bits of words.
use Rattle.std.proofs.Common.{◌≡◌, ℕ, ◌*◌, ◌/◌, ◌%◌, ◌^◌, ◌<◌, ◌≤◌, zero, suc, List, [], ◌∷◌, length, get_or, set, refl, sym, ap, ◌∙◌, inl, inr, arith, w64, get_or-set_other}
use Rattle.std.proofs.lemmas.Bool.{cases_eq, cases_lt}
use Rattle.std.proofs.lemmas.Grind.{get_or-set_at}
use Rattle.std.proofs.lemmas.List.{get_or_past}
use Rattle.std.proofs.lemmas.Nat.Bits.{bit_at_or, bit_at-zero, bit_at-lt, bit_at_set_same, bit_at_set_other, bit_at_clear_same, bit_at_clear_other}
use Rattle.std.specs.Prelude.{bit_and, bit_or, ◌⊎◌}
use Rattle.std.specs.Int.{bit_at, bit_not}
use Rattle.grail_check.specs.Sets.{Has}

-- ---- one word

pub set_same : (n k : ℕ) → k < 64 → bit_at (bit_or n (1 * 2 ^ k % 2 ^ 64)) k ≡ 1
set_same n k h = bit_at_set_same w64 n k h

pub set_other : (n k i : ℕ) → k < 64 → (i ≡ k → ⊥) → bit_at (bit_or n (1 * 2 ^ k % 2 ^ 64)) i ≡ bit_at n i
set_other n k i h other = bit_at_set_other w64 n k h i other

pub clear_same : (n k : ℕ) → k < 64 → bit_at (bit_and n (bit_not w64 (1 * 2 ^ k % 2 ^ 64))) k ≡ 0
clear_same n k h = bit_at_clear_same w64 n k h

pub clear_other : (n k i : ℕ) → k < 64 → i < 64 → (i ≡ k → ⊥) → bit_at (bit_and n (bit_not w64 (1 * 2 ^ k % 2 ^ 64))) i ≡ bit_at n i
clear_other n k i h within other = bit_at_clear_other w64 n k h i within other

-- ---- sets

-- no word has a number past the last one
pub not_past : (words : List ℕ) (x : ℕ) → length words ≤ x / 64 → Has words x → ⊥
unfolding Has
not_past words x h has =
    let none : bit_at (get_or words (x / 64) 0) (x % 64) ≡ 0 = ap (λ w. bit_at w (x % 64)) (get_or_past words (x / 64) 0 h) ∙ bit_at-zero (x % 64) in
    omega arith

module _ (words : List ℕ) (n word : ℕ) (h : n / 64 < length words) where
  here : (x : ℕ) → x / 64 ≡ n / 64 → bit_at (get_or (set words (n / 64) word) (x / 64) 0) (x % 64) ≡ bit_at word (x % 64)
  here x e = ap (λ w. bit_at w (x % 64)) (get_or-set_at words (n / 64) (x / 64) word 0 e h)

  away : (x : ℕ) → (x / 64 ≡ n / 64 → ⊥) → bit_at (get_or (set words (n / 64) word) (x / 64) 0) (x % 64) ≡ bit_at (get_or words (x / 64) 0) (x % 64)
  away x apart = ap (λ w. bit_at w (x % 64)) (get_or-set_other words (n / 64) (x / 64) word 0 apart)

  old : (x : ℕ) → x / 64 ≡ n / 64 → bit_at (get_or words (n / 64) 0) (x % 64) ≡ bit_at (get_or words (x / 64) 0) (x % 64)
  old x e = ap (λ i. bit_at (get_or words i 0) (x % 64)) (sym e)

  -- a word with one bit more
  pub kept : bit_at word (n % 64) ≡ 1 → ((i : ℕ) → (i ≡ n % 64 → ⊥) → bit_at word i ≡ bit_at (get_or words (n / 64) 0) i)
      → (x : ℕ) → Has words x → Has (set words (n / 64) word) x
  unfolding Has
  kept same other x has = elim (cases_eq (x / 64) (n / 64)) [
    | inl e ↦ elim (cases_eq (x % 64) (n % 64)) [
      | inl b ↦ here x e ∙ ap (bit_at word) b ∙ same
      | inr apart ↦ here x e ∙ other (x % 64) apart ∙ old x e ∙ has
    ]
    | inr apart ↦ away x apart ∙ has
  ]

  pub added : bit_at word (n % 64) ≡ 1 → Has (set words (n / 64) word) n
  unfolding Has
  added same = here n refl ∙ same

  pub only : ((i : ℕ) → (i ≡ n % 64 → ⊥) → bit_at word i ≡ bit_at (get_or words (n / 64) 0) i)
      → (x : ℕ) → Has (set words (n / 64) word) x → (x ≡ n) ⊎ Has words x
  unfolding Has
  only other x has = elim (cases_eq (x / 64) (n / 64)) [
    | inl e ↦ elim (cases_eq (x % 64) (n % 64)) [
      | inl b ↦ inl (omega arith)
      | inr apart ↦ inr (sym (old x e) ∙ sym (other (x % 64) apart) ∙ sym (here x e) ∙ has)
    ]
    | inr apart ↦ inr (sym (away x apart) ∙ has)
  ]

  -- a word with one bit less
  pub removed : bit_at word (n % 64) ≡ 0 → ((i : ℕ) → i < 64 → (i ≡ n % 64 → ⊥) → bit_at word i ≡ bit_at (get_or words (n / 64) 0) i)
      → (x : ℕ) → Has (set words (n / 64) word) x → Has words x × (x ≡ n → ⊥)
  unfolding Has
  removed same other x has = elim (cases_eq (x / 64) (n / 64)) [
    | inl e ↦ elim (cases_eq (x % 64) (n % 64)) [
      | inl b ↦ absurd (let none = sym has ∙ here x e ∙ ap (bit_at word) b ∙ same in omega (arith, none))
      | inr apart ↦ (sym (old x e) ∙ sym (other (x % 64) (omega arith) apart) ∙ sym (here x e) ∙ has, λ p. apart (ap (λ k. k % 64) p))
    ]
    | inr apart ↦ (sym (away x apart) ∙ has, λ p. apart (ap (λ k. k / 64) p))
  ]

pub untouched : (words : List ℕ) (n : ℕ) → length words ≤ n / 64 → (x : ℕ) → Has words x → Has words x × (x ≡ n → ⊥)
untouched words n h x has = (has, λ p. not_past words x (rw p h) has)

-- a set whose words have no bits that those of another have not
pub within : (a b : List ℕ) → ((k : ℕ) → k < length a → bit_or (get_or a k 0) (get_or b k 0) ≡ get_or b k 0) → (x : ℕ) → Has a x → Has b x
unfolding Has
within a b each x has = elim (cases_lt (x / 64) (length a)) [
  | inl less ↦
      let both = ap (λ w. bit_at w (x % 64)) (each (x / 64) less) in
      omega (arith, both, bit_at_or (get_or a (x / 64) 0) (get_or b (x / 64) 0) (x % 64), bit_at-lt (get_or b (x / 64) 0) (x % 64), has)
  | inr past ↦ absurd (not_past a x past has)
]

-- ---- the empty set

abbrev zeros : List ℕ
zeros = 0 ∷ 0 ∷ 0 ∷ 0 ∷ []

all_zero : (i : ℕ) → get_or zeros i 0 ≡ 0
all_zero zero = refl
all_zero (suc zero) = refl
all_zero (suc (suc zero)) = refl
all_zero (suc (suc (suc zero))) = refl
all_zero (suc (suc (suc (suc i)))) = refl

pub none_has : (x : ℕ) → Has zeros x → ⊥
unfolding Has
none_has x has =
    let none : bit_at (get_or zeros (x / 64) 0) (x % 64) ≡ 0 = ap (λ w. bit_at w (x % 64)) (all_zero (x / 64)) ∙ bit_at-zero (x % 64) in
    omega arith
