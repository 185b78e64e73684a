-- Cited by contracts. Greatest common divisors, after Euclid, Elements VII, 2.
use Rattle.std.specs.Prelude.{ℕ, zero, suc, ℤ, List, [], ◌∷◌, Bool, true, ◌&&◌, nat_eq, ◌%◌, if◌then◌else◌, unsigned_abs, ⊤}
use Prim.Native.Nat.{◌∣◌}

-- `h` divides each number of a list
abbrev pub divides_all : ℕ → List ℤ → Bool
divides_all h [] = true
divides_all h (x ∷ xs) = nat_eq (unsigned_abs x % h) 0 && divides_all h xs

-- the greatest number up to `n` that divides each number of a list; 1 is the least
abbrev pub greatest_up_to : ℕ → List ℤ → ℕ
greatest_up_to zero xs = 1
greatest_up_to (suc n) xs = if divides_all (suc n) xs then suc n else greatest_up_to n xs

-- the greatest common divisor of a number, which isn't 0, and of those of a list. The code takes it by Euclid's
-- algorithm.
abbrev pub common_divisor : ℤ → List ℤ → ℕ
common_divisor first rest = greatest_up_to (unsigned_abs first) (first ∷ rest)

-- the same as a fact
abbrev pub DividesAll : ℕ → List ℤ → Type 0
DividesAll h [] = ⊤
DividesAll h (x ∷ xs) = (h ∣ unsigned_abs x) × DividesAll h xs
