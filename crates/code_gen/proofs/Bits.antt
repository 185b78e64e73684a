-- Sets of locals as bits of two words.
use Rattle.std.proofs.Common.{◌≡◌, ℕ, zero, suc, ◌+◌, ◌-◌, ◌*◌, ◌/◌, ◌%◌, ◌^◌, ◌≤◌, ◌<◌, Bool, true, false, refl, sym, ap, ◌∙◌, subst, arith, inl, inr}
use Rattle.std.specs.Prelude.{◌==◌, ◌||◌, ◌&&◌, nat_lt, not, max, if◌then◌else◌, ◌⊎◌}
use Rattle.std.specs.Int.{bit_at, bit_not, trailing_zeros, w128}
use Rattle.std.specs.Int.RustNames.{bit_or, bit_and}
use Rattle.std.proofs.Math.Nat.{div-le_self}
use Rattle.std.proofs.lemmas.Bool.{cases_lt}
use Rattle.std.proofs.lemmas.Bool.Decides.{nat_tests}
use Rattle.std.proofs.lemmas.Nat.{shr-shr}
use Rattle.std.proofs.lemmas.Nat.Bits.{bit_at_or, bit_at_set_same, bit_at_set_other, bit_at_clear_same, bit_at_clear_other, bit_at-lt, bit_at-zero, bit_at_above, bit_at-trailing_zeros}
use Rattle.normal_form.specs.Live.{Marks, unless_bound}
use Rattle.code_gen.specs.declared.local_set.LocalSet.{LocalSet}
use Rattle.code_gen.specs.Marked.{IsMarked, IsNext, either_live, has, is_set, no_locals, none_live, with_one}
use Rattle.code_gen.proofs.Sorted.{other_test, same_or_not, same_test}

-- ---- one word

or_test : (a b : ℕ) → a < 2 → b < 2 → (max a b == 1) ≡ ((b == 1) || (a == 1))
or_test zero zero h k = refl
or_test zero (suc zero) h k = refl
or_test (suc zero) zero h k = refl
or_test (suc zero) (suc zero) h k = refl
or_test zero (suc (suc b)) h k = absurd (omega (arith, k))
or_test (suc zero) (suc (suc b)) h k = absurd (omega (arith, k))
or_test (suc (suc a)) b h k = absurd (omega (arith, h))

pub bits_joined : (a b y : ℕ) → is_set (bit_or a b) y ≡ (is_set b y || is_set a y)
bits_joined a b y = ap (λ k. k == 1) (bit_at_or a b y) ∙ or_test (bit_at a y) (bit_at b y) (bit_at-lt a y) (bit_at-lt b y)

pub bit_added : (word at y : ℕ) → at < 128 → is_set (bit_or word (1 * 2 ^ at % 2 ^ 128)) y ≡ ((at == y) || is_set word y)
bit_added word at y h = either (same_or_not at y)
  where
    either : (at ≡ y) ⊎ (at ≡ y → ⊥) → is_set (bit_or word (1 * 2 ^ at % 2 ^ 128)) y ≡ ((at == y) || is_set word y)
    either (inl e) =
        subst (λ z. is_set (bit_or word (1 * 2 ^ at % 2 ^ 128)) z ≡ ((at == z) || is_set word z)) e
        (ap (λ k. k == 1) (bit_at_set_same w128 word at h) ∙ sym (ap (λ b. b || is_set word at) (same_test at at refl)))
    either (inr n) = ap (λ k. k == 1) (bit_at_set_other w128 word at h y (λ e. n (sym e))) ∙ sym (ap (λ b. b || is_set word y) (other_test at y n))

pub bit_taken : (word at y : ℕ) → at < 128 → y < 128 → is_set (bit_and word (bit_not w128 (1 * 2 ^ at % 2 ^ 128))) y ≡ (not (at == y) && is_set word y)
bit_taken word at y h k = either (same_or_not at y)
  where
    either : (at ≡ y) ⊎ (at ≡ y → ⊥) → is_set (bit_and word (bit_not w128 (1 * 2 ^ at % 2 ^ 128))) y ≡ (not (at == y) && is_set word y)
    either (inl e) =
        subst (λ z. is_set (bit_and word (bit_not w128 (1 * 2 ^ at % 2 ^ 128))) z ≡ (not (at == z) && is_set word z)) e
        (ap (λ k. k == 1) (bit_at_clear_same w128 word at h) ∙ sym (ap (λ b. not b && is_set word at) (same_test at at refl)))
    either (inr n) = ap (λ k. k == 1) (bit_at_clear_other w128 word at h y k (λ e. n (sym e))) ∙ sym (ap (λ b. not b && is_set word y) (other_test at y n))

-- ---- the next bit

shifted : (word from i : ℕ) → bit_at (word / 2 ^ from) i ≡ bit_at word (from + i)
shifted word from i = ap (λ k. k % 2) (shr-shr word from i)

-- the bit at this place, behind a shift
behind : (word from y : ℕ) → from ≤ y → bit_at word y ≡ bit_at (word / 2 ^ from) (y - from)
behind word from y h = let same : y ≡ from + (y - from) = omega (arith, h) in ap (bit_at word) same ∙ sym (shifted word from (y - from))

pub next_at_end : (p : ℕ → Bool) (end : ℕ) → IsNext p end end end
next_at_end p end = record { since = omega arith; until = omega arith; none = λ y h k. absurd (omega (arith, h, k)); passing = λ h. absurd (omega (arith, h)) }

pub next_from_end : (p : ℕ → Bool) (first end : ℕ) → first ≡ end → IsNext p first end end
next_from_end p first end e = subst (λ k. IsNext p k end end) (sym e) (next_at_end p end)

pub next_none : (word from : ℕ) → from ≤ 128 → word / 2 ^ from ≡ 0 → IsNext (is_set word) from 128 128
next_none word from h e = record {
  since = h;
  until = omega arith;
  none = λ y k less. ap (λ b. b == 1) (behind word from y k ∙ ap (λ n. bit_at n (y - from)) e ∙ bit_at-zero (y - from));
  passing = λ k. absurd (omega (arith, k));
}

pub next_some : (word from : ℕ) → word < 2 ^ 128 → 0 < word / 2 ^ from → IsNext (is_set word) from 128 (from + trailing_zeros w128 (word / 2 ^ from))
next_some word from small some = record {
  since = omega arith;
  until = within (cases_lt (from + at) 128);
  none = λ y h k. ap (λ b. b == 1) (behind word from y h ∙ found.2 (y - from) (omega (arith, h, k)));
  passing = λ h. ap (λ b. b == 1) set;
}
  where
    at : ℕ
    at = trailing_zeros w128 (word / 2 ^ from)

    found : (trailing_zeros w128 (word / 2 ^ from) < 128) × (bit_at (word / 2 ^ from) (trailing_zeros w128 (word / 2 ^ from)) ≡ 1)
        × ((i : ℕ) → i < trailing_zeros w128 (word / 2 ^ from) → bit_at (word / 2 ^ from) i ≡ 0)
    found = let less = div-le_self word (2 ^ from) in bit_at-trailing_zeros w128 (word / 2 ^ from) some (omega (arith, small, less))

    set : bit_at word (from + trailing_zeros w128 (word / 2 ^ from)) ≡ 1
    set = sym (shifted word from (trailing_zeros w128 (word / 2 ^ from))) ∙ found.1

    within : (from + trailing_zeros w128 (word / 2 ^ from) < 128) ⊎ (128 ≤ from + trailing_zeros w128 (word / 2 ^ from))
        → from + trailing_zeros w128 (word / 2 ^ from) ≤ 128
    within (inl less) = omega (arith, less)
    within (inr more) = let none = bit_at_above word 128 (from + trailing_zeros w128 (word / 2 ^ from)) small more in let one = set in absurd (omega (arith, none, one))

-- ---- both words

has_low : (s : LocalSet) (y : ℕ) → y < 128 → has s y ≡ is_set s.low y
has_low s y h = let t : nat_lt y 128 ≡ true = grind (arith, nat_tests, h) in ap (λ b. if b then is_set s.low y else is_set s.high (y - 128)) t

has_high : (s : LocalSet) (y : ℕ) → 128 ≤ y → has s y ≡ is_set s.high (y - 128)
has_high s y h = let t : nat_lt y 128 ≡ false = grind (arith, nat_tests, h) in ap (λ b. if b then is_set s.low y else is_set s.high (y - 128)) t

no_bits : (y : ℕ) → is_set 0 y ≡ false
no_bits y = ap (λ b. b == 1) (bit_at-zero y)

pub has_none : (y : ℕ) → has no_locals y ≡ false
has_none y = either (cases_lt y 128)
  where
    either : (y < 128) ⊎ (128 ≤ y) → has no_locals y ≡ false
    either (inl less) = has_low no_locals y less ∙ no_bits y
    either (inr more) = has_high no_locals y more ∙ no_bits (y - 128)

pub none_marked : IsMarked no_locals none_live
none_marked = record { each = λ y h. has_none y }

-- the test of numbers from 128 on
test_above : (x y : ℕ) → 128 ≤ x → 128 ≤ y → (x - 128 == y - 128) ≡ (x == y)
test_above x y h k = either (same_or_not x y)
  where
    either : (x ≡ y) ⊎ (x ≡ y → ⊥) → (x - 128 == y - 128) ≡ (x == y)
    either (inl e) = same_test (x - 128) (y - 128) (omega (arith, e)) ∙ sym (same_test x y e)
    either (inr n) = other_test (x - 128) (y - 128) (λ e. n (omega (arith, e, h, k))) ∙ sym (other_test x y n)

pub inserted_low : (s t : LocalSet) (x : ℕ) (live : Marks) → x < 128 → ((y : ℕ) → is_set t.low y ≡ ((x == y) || is_set s.low y)) → t.high ≡ s.high
    → IsMarked s live → IsMarked t (with_one x live)
inserted_low s t x live there low high m = record { each = λ y h. either y h (cases_lt y 128) }
  where
    either : (y : ℕ) → y < 256 → (y < 128) ⊎ (128 ≤ y) → has t y ≡ ((x == y) || live y)
    either y h (inl less) = has_low t y less ∙ low y ∙ ap (λ b. (x == y) || b) (sym (has_low s y less) ∙ m.each y h)
    either y h (inr more) =
        has_high t y more ∙ ap (λ w. is_set w (y - 128)) high ∙ sym (has_high s y more) ∙ m.each y h ∙ sym (ap (λ b. b || live y) (other_test x y (λ e. omega (arith, e, there, more))))

pub inserted_high : (s t : LocalSet) (x : ℕ) (live : Marks) → 128 ≤ x → t.low ≡ s.low
    → ((y : ℕ) → is_set t.high y ≡ ((x - 128 == y) || is_set s.high y)) → IsMarked s live → IsMarked t (with_one x live)
inserted_high s t x live there low high m = record { each = λ y h. either y h (cases_lt y 128) }
  where
    either : (y : ℕ) → y < 256 → (y < 128) ⊎ (128 ≤ y) → has t y ≡ ((x == y) || live y)
    either y h (inl less) = has_low t y less ∙ ap (λ w. is_set w y) low ∙ sym (has_low s y less) ∙ m.each y h ∙ sym (ap (λ b. b || live y) (other_test x y (λ e. omega (arith, e, there, less))))
    either y h (inr more) =
        has_high t y more ∙ high (y - 128) ∙ ap (λ b. b || is_set s.high (y - 128)) (test_above x y there more) ∙ ap (λ b. (x == y) || b) (sym (has_high s y more) ∙ m.each y h)

pub inserted_beyond : (s : LocalSet) (x : ℕ) (live : Marks) → 256 ≤ x → IsMarked s live → IsMarked s (with_one x live)
inserted_beyond s x live beyond m = record { each = λ y h. m.each y h ∙ sym (ap (λ b. b || live y) (other_test x y (λ e. omega (arith, e, h, beyond)))) }

pub removed_low : (s t : LocalSet) (x : ℕ) (live : Marks) → x < 128 → ((y : ℕ) → y < 128 → is_set t.low y ≡ (not (x == y) && is_set s.low y))
    → t.high ≡ s.high → IsMarked s live → IsMarked t (unless_bound x live)
removed_low s t x live there low high m = record { each = λ y h. either y h (cases_lt y 128) }
  where
    either : (y : ℕ) → y < 256 → (y < 128) ⊎ (128 ≤ y) → has t y ≡ (not (x == y) && live y)
    either y h (inl less) = has_low t y less ∙ low y less ∙ ap (λ b. not (x == y) && b) (sym (has_low s y less) ∙ m.each y h)
    either y h (inr more) =
        has_high t y more ∙ ap (λ w. is_set w (y - 128)) high ∙ sym (has_high s y more) ∙ m.each y h ∙ sym (ap (λ b. not b && live y) (other_test x y (λ e. omega (arith, e, there, more))))

pub removed_high : (s t : LocalSet) (x : ℕ) (live : Marks) → 128 ≤ x → t.low ≡ s.low
    → ((y : ℕ) → y < 128 → is_set t.high y ≡ (not (x - 128 == y) && is_set s.high y)) → IsMarked s live → IsMarked t (unless_bound x live)
removed_high s t x live there low high m = record { each = λ y h. either y h (cases_lt y 128) }
  where
    either : (y : ℕ) → y < 256 → (y < 128) ⊎ (128 ≤ y) → has t y ≡ (not (x == y) && live y)
    either y h (inl less) = has_low t y less ∙ ap (λ w. is_set w y) low ∙ sym (has_low s y less) ∙ m.each y h ∙ sym (ap (λ b. not b && live y) (other_test x y (λ e. omega (arith, e, there, less))))
    either y h (inr more) =
        has_high t y more ∙ high (y - 128) (omega (arith, h, more)) ∙ ap (λ b. not b && is_set s.high (y - 128)) (test_above x y there more) ∙ ap (λ b. not (x == y) && b) (sym (has_high s y more) ∙ m.each y h)

pub removed_beyond : (s : LocalSet) (x : ℕ) (live : Marks) → 256 ≤ x → IsMarked s live → IsMarked s (unless_bound x live)
removed_beyond s x live beyond m = record { each = λ y h. m.each y h ∙ sym (ap (λ b. not b && live y) (other_test x y (λ e. omega (arith, e, h, beyond)))) }

pub joined : (s t other : LocalSet) (live : Marks) → ((y : ℕ) → is_set t.low y ≡ (is_set other.low y || is_set s.low y))
    → ((y : ℕ) → is_set t.high y ≡ (is_set other.high y || is_set s.high y)) → IsMarked s live
    → IsMarked t (either_live (has other) live)
joined s t other live low high m = record { each = λ y h. either y h (cases_lt y 128) }
  where
    either : (y : ℕ) → y < 256 → (y < 128) ⊎ (128 ≤ y) → has t y ≡ (has other y || live y)
    either y h (inl less) = has_low t y less ∙ low y ∙ ap (λ b. b || is_set s.low y) (sym (has_low other y less)) ∙ ap (λ b. has other y || b) (sym (has_low s y less) ∙ m.each y h)
    either y h (inr more) =
        has_high t y more ∙ high (y - 128) ∙ ap (λ b. b || is_set s.high (y - 128)) (sym (has_high other y more)) ∙ ap (λ b. has other y || b) (sym (has_high s y more) ∙ m.each y h)

-- ---- the next local

pub next_here : (s : LocalSet) (from at : ℕ) → IsNext (is_set s.low) from 128 at → at < 128 → IsNext (has s) from 256 at
next_here s from at n less = record {
  since = n.since;
  until = omega (arith, less);
  none = λ y h k. has_low s y (omega (arith, k, less)) ∙ n.none y h k;
  passing = λ h. has_low s at less ∙ n.passing less;
}

pub next_above : (s : LocalSet) (from at : ℕ) → 128 ≤ from → IsNext (is_set s.high) (from - 128) 128 at → IsNext (has s) from 256 (128 + at)
next_above s from at above n = record {
  since = (let since = n.since in omega (arith, since, above));
  until = (let until = n.until in omega (arith, until));
  none = λ y h k. has_high s y (omega (arith, h, above)) ∙ n.none (y - 128) (omega (arith, h, above)) (omega (arith, h, k, above));
  passing = λ h. has_high s (128 + at) (omega arith) ∙ ap (is_set s.high) (omega arith) ∙ n.passing (omega (arith, h));
}

pub next_behind : (s : LocalSet) (from at after : ℕ) → from < 128 → IsNext (is_set s.low) from 128 at → 128 ≤ at → IsNext (is_set s.high) 0 128 after
    → IsNext (has s) from 256 (128 + after)
next_behind s from at after below n over m = record {
  since = omega (arith, below);
  until = (let until = m.until in omega (arith, until));
  none = λ y h k. either y h k (cases_lt y 128);
  passing = λ h. has_high s (128 + after) (omega arith) ∙ ap (is_set s.high) (omega arith) ∙ m.passing (omega (arith, h));
}
  where
    either : (y : ℕ) → from ≤ y → y < 128 + after → (y < 128) ⊎ (128 ≤ y) → has s y ≡ false
    either y h k (inl less) = has_low s y less ∙ n.none y h (omega (arith, less, over))
    either y h k (inr more) = has_high s y more ∙ m.none (y - 128) (omega arith) (omega (arith, k, more))

pub next_within : (p : ℕ → Bool) (from at end : ℕ) → IsNext p from 256 at → end ≤ 256 → at < end → IsNext p from end at
next_within p from at end n few less = record { since = n.since; until = omega (arith, less); none = n.none; passing = λ h. n.passing (omega (arith, less, few)) }

pub next_over : (p : ℕ → Bool) (from at end : ℕ) → IsNext p from 256 at → from ≤ end → end ≤ at → IsNext p from end end
next_over p from at end n ahead over = record { since = ahead; until = omega arith; none = λ y h k. n.none y h (omega (arith, k, over)); passing = λ h. absurd (omega (arith, h)) }
