-- Cited by contracts.
-- The values of Camelot and Grail: those of LFPL (Hofmann 2000) with the memory cells forgotten. The code keeps
-- a value as the list of its nodes in prefix order (Items).
use Rattle.std.specs.Prelude.{ℕ, suc, Bool, ℤ, pos, negsuc, nat_lt, List, [], ◌∷◌}
use Rattle.std.specs.Int.{w32}
use Rattle.std.specs.Int.RustNames.{FitsSigned}

-- a whole number within 32 bits in two's complement, from -2147483648 to 2147483647
abbrev pub IsInt32 : ℤ → Type 0
IsInt32 z = FitsSigned w32 z

-- the same as a test, by cases on the sign; `negsuc n` is -(n + 1)
abbrev pub is_int32 : ℤ → Bool
is_int32 (pos n) = nat_lt n 2147483648
is_int32 (negsuc n) = nat_lt n 2147483648

-- An int, a truth value, a diamond, or a constructor, by its number, with its parts. That ints have 32 bits stands
-- where a value is of a kind (Typing).
mutual
  pub data Value : Type 0 where
    Int : ℤ → Value
    Flag : Bool → Value
    Dia : Value
    Con : ℕ → Values → Value

  pub data Values : Type 0 where
    End : Values
    And : Value → Values → Values

-- a list of values as the parts of a constructor
abbrev pub parts : List Value → Values
parts [] = End
parts (v ∷ vs) = And v (parts vs)

-- how many parts there are
abbrev pub part_count : Values → ℕ
part_count End = 0
part_count (And v vs) = suc (part_count vs)
