-- Tests, and numbers that are told apart by them.
use Rattle.std.proofs.Common.{◌≡◌, ◌⊎◌, ℕ, suc, Bool, true, false, refl, arith, inl, inr}
use Rattle.std.specs.Prelude.{◌||◌, ◌&&◌, ◌==◌}
use Rattle.std.proofs.lemmas.Bool.Decides.{nat_tests}

pub or_first : (a b : Bool) → a ≡ true → (a || b) ≡ true
or_first true b h = refl
or_first false b h = absurd cc

pub or_second : (a b : Bool) → b ≡ true → (a || b) ≡ true
or_second true b h = refl
or_second false b h = h

pub or_split : (a b : Bool) → (a || b) ≡ true → (a ≡ true) ⊎ (b ≡ true)
or_split true b h = inl refl
or_split false b h = inr h

pub or_neither : (a b : Bool) → a ≡ false → b ≡ false → (a || b) ≡ false
or_neither true b e d = absurd cc
or_neither false b e d = d

pub and_both : (a b : Bool) → a ≡ true → b ≡ true → (a && b) ≡ true
and_both true b e d = d
and_both false b e d = absurd cc

pub and_left : (a b : Bool) → (a && b) ≡ true → a ≡ true
and_left true b e = refl
and_left false b e = absurd cc

pub and_right : (a b : Bool) → (a && b) ≡ true → b ≡ true
and_right true b e = e
and_right false b e = absurd cc

pub not_both : (t : Bool) → t ≡ true → t ≡ false → ⊥
not_both true e d = absurd cc
not_both false e d = absurd cc

pub itself : (n : ℕ) → (n == n) ≡ true
itself n = grind (arith, nat_tests)

pub are_equal : (m n : ℕ) → (m == n) ≡ true → m ≡ n
are_equal m n e = grind (arith, nat_tests, e)

pub not_equal : (m n : ℕ) → (m == n) ≡ false → m ≡ n → ⊥
not_equal m n e q = absurd (grind (arith, nat_tests, e, q))

pub not_first : (n : ℕ) → (suc n == 0) ≡ false
not_first n = grind (arith, nat_tests)
