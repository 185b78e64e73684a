-- The ring of whole numbers: the laws by which products are taken apart, and sets for sums and orders that leave
-- products alone.
use Rattle.std.proofs.Common.{◌≡◌, suc, zero, ◌*◌, ℤ, pos, negsuc, ◌+ℤ◌, ◌*ℤ◌, arith, ap, sym, ◌∙◌, ◌⊎◌, inl, inr}
use Rattle.std.specs.Prelude.{neg_ℤ, ◌<ℤ◌, ◌≤ℤ◌}
use Rattle.std.proofs.lemmas.Int.{ints}
use borrow.Author.Differences.{up, down, same_in, same_out, product_is, sum_is_lem, neg_is, at_most_in, below_in, le_out, lt_out}

-- for `omega`: sums, negations and orders, with each product as it stands
pub ruleset sums = (same_in, same_out, sum_is_lem, neg_is, at_most_in, below_in, le_out, lt_out)

pub distrib : (a b c : ℤ) → a *ℤ (b +ℤ c) ≡ (a *ℤ b) +ℤ (a *ℤ c)
distrib a b c = omega (arith, ints, ap (λ n. up a * n) (sum_is_lem b c), ap (λ n. down a * n) (sum_is_lem b c))

pub distrib_right : (a b c : ℤ) → (a +ℤ b) *ℤ c ≡ (a *ℤ c) +ℤ (b *ℤ c)
distrib_right a b c = omega (arith, ints, ap (λ n. n * up c) (sum_is_lem a b), ap (λ n. n * down c) (sum_is_lem a b))

pub times_comm : (a b : ℤ) → a *ℤ b ≡ b *ℤ a
times_comm a b = omega (arith, ints)

pub times_assoc : (a b c : ℤ) → (a *ℤ b) *ℤ c ≡ a *ℤ (b *ℤ c)
times_assoc a b c = omega (
  arith,
  ints,
  ap (λ n. n * up c) (product_is a b).0,
  ap (λ n. n * down c) (product_is a b).0,
  ap (λ n. n * up c) (product_is a b).1,
  ap (λ n. n * down c) (product_is a b).1,
  ap (λ n. up a * n) (product_is b c).0,
  ap (λ n. down a * n) (product_is b c).0,
  ap (λ n. up a * n) (product_is b c).1,
  ap (λ n. down a * n) (product_is b c).1,
)

pub times_neg : (a b : ℤ) → neg_ℤ a *ℤ b ≡ neg_ℤ (a *ℤ b)
times_neg a b = omega (arith, ints, ap (λ n. n * up b) (neg_is a).0, ap (λ n. n * down b) (neg_is a).0, ap (λ n. n * up b) (neg_is a).1, ap (λ n. n * down b) (neg_is a).1)

pub times_zero : (a : ℤ) → a *ℤ pos 0 ≡ pos 0
times_zero a = omega (arith, ints)

pub zero_times : (a : ℤ) → pos 0 *ℤ a ≡ pos 0
zero_times a = omega (arith, ints)

pub one_times : (a : ℤ) → pos 1 *ℤ a ≡ a
one_times a = omega (arith, ints)

pub swap_times : (a b c : ℤ) → a *ℤ (b *ℤ c) ≡ b *ℤ (a *ℤ c)
swap_times a b c = sym (times_assoc a b c) ∙ ap (λ x. x *ℤ c) (times_comm a b) ∙ times_assoc b a c

-- ---- orders and products
pub not_negative_times : (a b : ℤ) → pos 0 ≤ℤ a → pos 0 ≤ℤ b → pos 0 ≤ℤ (a *ℤ b)
not_negative_times (pos a) (pos b) p q = omega (arith, ints)
not_negative_times (pos a) (negsuc b) p q = absurd (omega (arith, ints))
not_negative_times (negsuc a) b p q = absurd (omega (arith, ints))

pub not_positive_times : (a b : ℤ) → a ≤ℤ pos 0 → pos 0 ≤ℤ b → (a *ℤ b) ≤ℤ pos 0
not_positive_times (pos zero) b p q = omega (arith, ints)
not_positive_times (pos (suc a)) b p q = absurd (omega (arith, ints))
not_positive_times (negsuc a) (pos b) p q = omega (arith, ints)
not_positive_times (negsuc a) (negsuc b) p q = absurd (omega (arith, ints))

pub negative_times : (a b : ℤ) → a <ℤ pos 0 → pos 0 <ℤ b → (a *ℤ b) <ℤ pos 0
negative_times (pos a) b p q = absurd (omega (arith, ints))
negative_times (negsuc a) (pos zero) p q = absurd (omega (arith, ints))
negative_times (negsuc a) (pos (suc b)) p q = omega (arith, ints)
negative_times (negsuc a) (negsuc b) p q = absurd (omega (arith, ints))

pub times_at_most : (d a b : ℤ) → pos 0 ≤ℤ d → a ≤ℤ b → (d *ℤ a) ≤ℤ (d *ℤ b)
times_at_most d a b p q =
    let k = not_negative_times d (b +ℤ neg_ℤ a) p (omega (arith, sums)) in
    let e = distrib d b (neg_ℤ a) in
    let f = times_comm d (neg_ℤ a) ∙ times_neg a d ∙ ap neg_ℤ (times_comm a d) in
    omega (arith, sums)

-- a positive factor cancels
pub cancel_at_most : (d a b : ℤ) → pos 0 <ℤ d → (d *ℤ a) ≤ℤ (d *ℤ b) → a ≤ℤ b
cancel_at_most d a b p q = by_order (order b a)
  where
    order : (x y : ℤ) → (x <ℤ y) ⊎ (y ≤ℤ x)
    order x y = grind (arith, ints)

    by_order : (b <ℤ a) ⊎ (a ≤ℤ b) → a ≤ℤ b
    by_order (inr h) = h
    by_order (inl h) =
        let k = negative_times (b +ℤ neg_ℤ a) d (omega (arith, sums)) p in
        let e = distrib_right b (neg_ℤ a) d in
        let f = times_neg a d in
        let g = times_comm d a in
        let i = times_comm d b in
        absurd (omega (arith, sums))

pub cancel : (d a b : ℤ) → pos 0 <ℤ d → d *ℤ a ≡ d *ℤ b → a ≡ b
cancel d a b p e =
    let k = cancel_at_most d a b p (omega (arith, sums)) in
    let l = cancel_at_most d b a p (omega (arith, sums)) in
    omega (arith, sums)

-- one place of two mixed sums
pub mix_place : (s t a b x one two : ℤ) → (((s *ℤ a) +ℤ (t *ℤ b)) *ℤ x) +ℤ ((s *ℤ one) +ℤ (t *ℤ two)) ≡ (s *ℤ ((a *ℤ x) +ℤ one)) +ℤ (t *ℤ ((b *ℤ x) +ℤ two))
mix_place s t a b x one two =
    let e = distrib_right (s *ℤ a) (t *ℤ b) x in
    let f = times_assoc s a x in
    let g = times_assoc t b x in
    let h = distrib s (a *ℤ x) one in
    let i = distrib t (b *ℤ x) two in
    omega (arith, sums)
