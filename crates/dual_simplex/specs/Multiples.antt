-- Private: words for functions of this crate. What greatest common divisors and least multiples are, without a search.
use Rattle.std.specs.Prelude.{ℕ, ◌*◌, ◌<◌, ◌^◌, ℤ, List}
use Prim.Native.Nat.{◌∣◌}
use Rattle.dual_simplex.specs.Division.{DividesAll}
use Rattle.dual_simplex.specs.declared.answer.Fraction.{Fraction}

-- `g` divides `a` and `b`, and whatever divides a multiple of both, by the same number, divides that multiple of `g`.
-- So each common divisor of `a` and `b` divides `g`.
pub record IsGreatestCommon (a b g : ℕ) : Type 0 where
  pub left : g ∣ a
  pub right : g ∣ b
  pub greatest : (h v : ℕ) → h ∣ (v * a) → h ∣ (v * b) → h ∣ (v * g)

-- `g` is the greatest common divisor of `start` and of all numbers of a list
pub record SharesWith (start : ℕ) (xs : List ℤ) (g : ℕ) : Type 0 where
  pub divides : (h : ℕ) → h ∣ g → (h ∣ start) × DividesAll h xs
  pub greatest : (h : ℕ) → h ∣ start → DividesAll h xs → h ∣ g

-- `next` divides exactly the multiples of `unit` that make a fraction whole
pub record IsMultiple (unit : ℕ) (f : Fraction) (next : ℕ) : Type 0 where
  pub positive : 0 < next
  pub divides : (v : ℕ) → next ∣ v → (unit ∣ v) × (f.below ∣ (v * f.above))
  pub least : (v : ℕ) → unit ∣ v → f.below ∣ (v * f.above) → next ∣ v

-- each multiple of `unit` that makes a fraction whole is above 2 to the 62
pub record NoMultiple (unit : ℕ) (f : Fraction) : Type 0 where
  pub large : (v : ℕ) → 0 < v → unit ∣ v → f.below ∣ (v * f.above) → 2 ^ 62 < v
