-- Laws, for the proofs of this crate and of those above it.
-- Whole numbers: how products with a sum and with a difference are taken apart, and a set for sums that leaves products
-- alone.
use Rattle.std.proofs.Common.{◌≡◌, ◌*◌, ℤ, pos, ◌+ℤ◌, ◌*ℤ◌, arith, ap, ◌∙◌}
use Rattle.std.specs.Prelude.{neg_ℤ, ◌-ℤ◌}
use Rattle.std.proofs.lemmas.Int.{ints}
use borrow.Author.Differences.{up, down, same_in, same_out, product_is, sum_is_lem, neg_is, at_most_in, below_in, le_out, lt_out}

-- for `omega`: sums, negations and orders, with each product as it stands
pub ruleset sums = (same_in, same_out, sum_is_lem, neg_is, at_most_in, below_in, le_out, lt_out)

pub sum_times : (a b c : ℤ) → (a +ℤ b) *ℤ c ≡ (a *ℤ c) +ℤ (b *ℤ c)
sum_times a b c = omega (arith, ints, ap (λ n. n * up c) (sum_is_lem a b), ap (λ n. n * down c) (sum_is_lem a b))

neg_times : (a b : ℤ) → neg_ℤ a *ℤ b ≡ neg_ℤ (a *ℤ b)
neg_times a b = omega (arith, ints, ap (λ n. n * up b) (neg_is a).0, ap (λ n. n * down b) (neg_is a).0, ap (λ n. n * up b) (neg_is a).1, ap (λ n. n * down b) (neg_is a).1)

pub minus_times : (a b c : ℤ) → (a -ℤ b) *ℤ c ≡ (a *ℤ c) -ℤ (b *ℤ c)
minus_times a b c = sum_times a (neg_ℤ b) c ∙ ap (λ x. (a *ℤ c) +ℤ x) (neg_times b c)

pub zero_times : (a : ℤ) → pos 0 *ℤ a ≡ pos 0
zero_times a = omega (arith, ints)

pub one_times : (a : ℤ) → pos 1 *ℤ a ≡ a
one_times a = omega (arith, ints)
