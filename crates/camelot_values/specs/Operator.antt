-- Cited by contracts.
-- The operators of the language on values: sums, differences, products and quotients wrap to 32 bits in two's
-- complement, comparisons are those of whole numbers. An operator comes to an outcome, as every step of a run does.
use Rattle.std.specs.Prelude.{not, ℤ, pos, int_lt, int_rem, if◌then◌else◌}
use Rattle.std.specs.Int.{w32, int_wrapping_add, int_wrapping_sub, int_wrapping_mul, int_wrapping_div}
use Rattle.std.specs.Ordering.{int_eq}
use Rattle.camelot_values.specs.Value.{Value, Int, Flag}
use Rattle.camelot_values.specs.Outcome.{Outcome, Trap, Stuck, at_once}

pub data Operator : Type 0 where
  Add : Operator
  Sub : Operator
  Mul : Operator
  Div : Operator
  Mod : Operator
  Eq : Operator
  Ne : Operator
  Lt : Operator
  Le : Operator
  Gt : Operator
  Ge : Operator

-- what comes of dividing by this: nothing divides by 0, where the run is trapped
abbrev pub dividing_by : ℤ → ℤ → Outcome Value
dividing_by y z = if int_eq y (pos 0) then Trap 0 else at_once (Int z)

-- A quotient is rounded toward zero. A remainder is the left operand less the right one times the quotient before
-- wrapping, so that it has the left one's sign.
abbrev pub on_ints : Operator → ℤ → ℤ → Outcome Value
on_ints Add x y = at_once (Int (int_wrapping_add w32 x y))
on_ints Sub x y = at_once (Int (int_wrapping_sub w32 x y))
on_ints Mul x y = at_once (Int (int_wrapping_mul w32 x y))
on_ints Div x y = dividing_by y (int_wrapping_div w32 x y)
on_ints Mod x y = dividing_by y (int_rem x y)
on_ints Eq x y = at_once (Flag (int_eq x y))
on_ints Ne x y = at_once (Flag (not (int_eq x y)))
on_ints Lt x y = at_once (Flag (int_lt x y))
on_ints Le x y = at_once (Flag (not (int_lt y x)))
on_ints Gt x y = at_once (Flag (int_lt y x))
on_ints Ge x y = at_once (Flag (not (int_lt x y)))

-- both operands are ints; on anything else an operator has no meaning
abbrev pub operate : Operator → Value → Value → Outcome Value
operate op (Int x) (Int y) = on_ints op x y
operate op u v = Stuck
