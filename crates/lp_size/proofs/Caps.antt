-- Sums of the code, which are cut at the most that 64 bits hold.
use Rattle.std.proofs.Common.{◌≡◌, ◌⊎◌, ℕ, ◌+◌, ◌-◌, ◌<◌, ◌≤◌, ◌^◌, min, sym, ap, ◌∙◌, arith, inl, inr}
use Rattle.std.proofs.Math.Nat.{min-eq_left, min-eq_right}
use Rattle.std.proofs.lemmas.Bool.{cases_lt}
use Rattle.lp_size.specs.Counting.{more}

abbrev pub cap : ℕ → ℕ
cap n = min n (2 ^ 64 - 1)

cut_twice : (a b m : ℕ) → min (min a m + b) m ≡ min (a + b) m
cut_twice a b m = by_order (cases_lt a m)
  where
    by_order : (a < m) ⊎ (m ≤ a) → min (min a m + b) m ≡ min (a + b) m
    by_order (inl k) = let e : min a m ≡ a = min-eq_left (omega (arith, k)) in ap (λ x. min (x + b) m) e
    by_order (inr k) =
        let e : min a m ≡ m = min-eq_right k in
        let d : min (m + b) m ≡ m = min-eq_right (omega arith) in
        let g : min (a + b) m ≡ m = min-eq_right (omega (arith, k)) in
        ap (λ x. min (x + b) m) e ∙ d ∙ sym g

pub more_left : (a b : ℕ) → more (cap a) b ≡ cap (a + b)
more_left a b = cut_twice a b (2 ^ 64 - 1)

swapped : (a b : ℕ) → more a b ≡ more b a
swapped a b = let e : a + b ≡ b + a = omega arith in ap (λ n. min n (2 ^ 64 - 1)) e

pub more_right : (a b : ℕ) → more a (cap b) ≡ cap (a + b)
more_right a b = swapped a (cap b) ∙ more_left b a ∙ swapped b a

pub more_both : (a b : ℕ) → more (cap a) (cap b) ≡ cap (a + b)
more_both a b = more_left a (cap b) ∙ more_right a b

pub small : (n : ℕ) → n ≤ 2 ^ 64 - 1 → cap n ≡ n
small n h = min-eq_left h

pub none : 0 ≡ cap 0
none = sym (small 0 (omega arith))
