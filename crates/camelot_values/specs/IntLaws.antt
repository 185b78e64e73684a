-- Laws, for the proofs of this crate and of those above it.
-- Laws of ints of 32 bits.
use Rattle.std.proofs.Common.{◌≡◌, ℕ, zero, suc, ◌-◌, ◌/◌, ◌<◌, ◌≤◌, Bool, true, false, refl, arith}
use Rattle.std.specs.Prelude.{◌+ℤ◌, ◌*ℤ◌, ℤ, pos, negsuc, neg_ℤ, unsigned_abs, int_div, int_rem, IsTrue, List, if◌then◌else◌}
use Rattle.std.specs.Int.{w32, int_wrapping_div, cast_signed, cast_unsigned}
use Rattle.std.specs.Int.Signed.{mag, mag_rem}
use Rattle.std.specs.Ordering.{int_eq}
use Rattle.std.proofs.Math.Nat.{div-le_self}
use Rattle.std.proofs.Math.Facts.{Fits-of_lt, sfits_to_z}
use Rattle.std.specs.Int.RustNames.{FitsSigned}
use Rattle.std.proofs.lemmas.Bool.Decides.{nat_tests, Decides-int_eq}
use Rattle.std.proofs.lemmas.Int.{quot-rem, SFits-int_wrap, wrapping_add_is, wrapping_sub_is, wrapping_mul_is}
use Rattle.std.proofs.Common.{subst, sym}
use Rattle.camelot_values.specs.Value as value
use Rattle.camelot_values.specs.Value.{Value, IsInt32, is_int32}
use Rattle.camelot_values.specs.Operator as operator
use Rattle.camelot_values.specs.Operator.{Operator, dividing_by, on_ints, operate}
use Rattle.camelot_values.specs.Outcome.{Done, Trap}
use Rattle.camelot_values.specs.Kinds.{DataType, type_of}
use Rattle.camelot_values.specs.Typing.{Fits, operator_kind, IsSafe}
use Rattle.camelot_values.specs.declared.kinds.Kind.TheVariants as kind
use Rattle.std.specs.Option.{option_map}
use Rattle.std.specs.Prelude.{Option, Some, None}

-- The test of 32 bits is the range.
pub passing_int : (z : ℤ) → IsTrue (is_int32 z) → IsInt32 z
passing_int (pos n) h = let k : n < 2147483648 = grind (arith, nat_tests, h) in fits_pos n k
  where
    fits_pos : (n : ℕ) → n < 2147483648 → FitsSigned w32 (pos n)
    fits_pos n k = omega (arith, k)
passing_int (negsuc n) h = let k : n < 2147483648 = grind (arith, nat_tests, h) in fits_neg n k
  where
    fits_neg : (n : ℕ) → n < 2147483648 → FitsSigned w32 (negsuc n)
    fits_neg n k = omega (arith, k)

pub int_passes : (z : ℤ) → IsInt32 z → IsTrue (is_int32 z)
int_passes (pos n) h = let k : n < 2147483648 = omega (arith, h) in grind (arith, nat_tests, k)
int_passes (negsuc n) h = let k : n < 2147483648 = omega (arith, h) in grind (arith, nat_tests, k)

-- A number of at most 2^31 in size is an int of 32 bits once it is wrapped.
bits_fit : (n : ℕ) → n < 4294967296 → IsInt32 (cast_signed w32 n)
bits_fit n h = sfits_to_z {w = w32} {n = n} (Fits-of_lt {w = w32} {n = n} h)

word_fits : (z : ℤ) → unsigned_abs z ≤ 2147483648 → IsInt32 (cast_signed w32 (cast_unsigned w32 z))
word_fits (pos n) h = bits_fit n (omega (arith, h))
word_fits (negsuc n) h = bits_fit (4294967296 - suc n) (omega arith)

-- a quotient is no larger than the number
neg_size : (n : ℕ) → unsigned_abs (neg_ℤ (pos n)) ≡ n
neg_size zero = refl
neg_size (suc n) = refl

quotient_size : (x y : ℤ) → unsigned_abs (int_div x y) ≤ unsigned_abs x
quotient_size (pos a) (pos b) = div-le_self a b
quotient_size (pos a) (negsuc b) = subst (λ n. n ≤ a) (sym (neg_size (a / suc b))) (div-le_self a (suc b))
quotient_size (negsuc a) (pos b) = subst (λ n. n ≤ suc a) (sym (neg_size (suc a / b))) (div-le_self (suc a) b)
quotient_size (negsuc a) (negsuc b) = div-le_self (suc a) (suc b)

int_size : (z : ℤ) → IsInt32 z → unsigned_abs z ≤ 2147483648
int_size (pos n) h = omega (arith, h)
int_size (negsuc n) h = omega (arith, h)

quotient_sound : (types : List DataType) (x y : ℤ) → IsInt32 x → IsSafe types kind.Int (dividing_by y (int_wrapping_div w32 x y))
quotient_sound types x y f = by_test (int_eq y (pos 0))
  where
    fits : IsInt32 (int_wrapping_div w32 x y)
    fits = word_fits (int_div x y) (let a : unsigned_abs (int_div x y) ≤ unsigned_abs x = quotient_size x y in let b : unsigned_abs x ≤ 2147483648 = int_size x f in omega (arith, a, b))

    by_test : (b : Bool) → IsSafe types kind.Int (if b then Trap 0 else Done (value.Int (int_wrapping_div w32 x y)) 0 0 0)
    by_test true = tt
    by_test false = (refl, fits)

size_fits : (z : ℤ) → mag z < 2147483648 → IsInt32 z
size_fits (pos n) h = omega (arith, h)
size_fits (negsuc n) h = omega (arith, h)

fits_size : (z : ℤ) → IsInt32 z → mag z < 2147483648
fits_size (pos n) h = omega (arith, h)
fits_size (negsuc n) h = omega (arith, h)

remainder_sound : (types : List DataType) (x y : ℤ) → IsInt32 x → IsSafe types kind.Int (dividing_by y (int_rem x y))
remainder_sound types x y f = by_test (int_eq y (pos 0))
  where
    by_test : (b : Bool) → IsSafe types kind.Int (if b then Trap 0 else Done (value.Int (int_rem x y)) 0 0 0)
    by_test true = tt
    by_test false = (refl, size_fits (int_rem x y) (let a : mag (int_rem x y) ≤ mag x = mag_rem x y in let b : mag x < 2147483648 = fits_size x f in omega (arith, a, b)))

-- What an operator gives for two ints of 32 bits is of its kind, and its ints have 32 bits.
on_ints_sound : (types : List DataType) (op : Operator) (x y : ℤ) → IsInt32 x → IsInt32 y → IsSafe types (operator_kind op) (on_ints op x y)
on_ints_sound types operator.Add x y f g = (refl, subst IsInt32 (sym (wrapping_add_is w32 x y f g)) (SFits-int_wrap w32 _))
on_ints_sound types operator.Sub x y f g = (refl, subst IsInt32 (sym (wrapping_sub_is w32 x y f g)) (SFits-int_wrap w32 _))
on_ints_sound types operator.Mul x y f g = (refl, subst IsInt32 (sym (wrapping_mul_is w32 x y f g)) (SFits-int_wrap w32 _))
on_ints_sound types operator.Div x y f g = quotient_sound types x y f
on_ints_sound types operator.Mod x y f g = remainder_sound types x y f
on_ints_sound types operator.Eq x y f g = refl
on_ints_sound types operator.Ne x y f g = refl
on_ints_sound types operator.Lt x y f g = refl
on_ints_sound types operator.Le x y f g = refl
on_ints_sound types operator.Gt x y f g = refl
on_ints_sound types operator.Ge x y f g = refl

-- Only by 0 an operator is trapped.
dividing_trapped : (y z : ℤ) (p : ℕ) → dividing_by y z ≡ Trap p → y ≡ pos 0
dividing_trapped y z p e = by_test (int_eq y (pos 0)) refl e
  where
    by_test : (b : Bool) → int_eq y (pos 0) ≡ b → (if b then Trap 0 else Done (value.Int z) 0 0 0) ≡ Trap p → y ≡ pos 0
    by_test true q e = (Decides-int_eq y (pos 0)).0 q
    by_test false q e = absurd cc

pub trapped_by_zero : (op : Operator) (x y : ℤ) (p : ℕ) → on_ints op x y ≡ Trap p → y ≡ pos 0
trapped_by_zero operator.Add x y p e = absurd cc
trapped_by_zero operator.Sub x y p e = absurd cc
trapped_by_zero operator.Mul x y p e = absurd cc
trapped_by_zero operator.Div x y p e = dividing_trapped y _ p e
trapped_by_zero operator.Mod x y p e = dividing_trapped y _ p e
trapped_by_zero operator.Eq x y p e = absurd cc
trapped_by_zero operator.Ne x y p e = absurd cc
trapped_by_zero operator.Lt x y p e = absurd cc
trapped_by_zero operator.Le x y p e = absurd cc
trapped_by_zero operator.Gt x y p e = absurd cc
trapped_by_zero operator.Ge x y p e = absurd cc

-- Remainders are what quotients leave.
pub remainder_is : (x y : ℤ) → (int_div x y *ℤ y +ℤ int_rem x y) ≡ x
remainder_is x y = quot-rem x y

no_con : (types : List DataType) (c : ℕ) → option_map kind.Of (type_of types c) ≡ Some kind.Int → ⊥
no_con types c e = by_type (type_of types c) e
  where
    by_type : (o : Option ℕ) → option_map kind.Of o ≡ Some kind.Int → ⊥
    by_type None e = absurd cc
    by_type (Some t) e = absurd cc

pub operate_sound : (types : List DataType) (op : Operator) (u v : Value) → Fits types kind.Int u → Fits types kind.Int v
    → IsSafe types (operator_kind op) (operate op u v)
operate_sound types op (value.Int x) (value.Int y) h g = on_ints_sound types op x y h.1 g.1
operate_sound types op (value.Int x) (value.Flag y) h g = absurd cc
operate_sound types op (value.Int x) value.Dia h g = absurd cc
operate_sound types op (value.Int x) (value.Con c vs) h g = absurd (no_con types c g.0)
operate_sound types op (value.Flag x) v h g = absurd cc
operate_sound types op value.Dia v h g = absurd cc
operate_sound types op (value.Con c vs) v h g = absurd (no_con types c h.0)
