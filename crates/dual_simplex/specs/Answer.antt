-- Cited by contracts. The answer at the end of a run: values and prices as whole numbers over one unit each.
use Rattle.std.specs.Prelude.{ℕ, zero, suc, ◌*◌, ◌/◌, ◌%◌, ◌^◌, ℤ, List, [], ◌∷◌, map, length, Bool, true, ◌&&◌, nat_le, nat_eq, ◌==◌, if◌then◌else◌, unsigned_abs}
use Rattle.std.specs.List.{list_all, range_with_len}
use Rattle.dual_simplex.specs.Equation.{Equation}
use Rattle.dual_simplex.specs.Tableau.{Tableau}
use Rattle.dual_simplex.specs.declared.answer.Fraction.{Fraction}

-- the value of a variable: constant over divisor where it is basic, and 0 elsewhere. At the end no constant is
-- negative.
abbrev pub value_of : ℕ → List Equation → Fraction
value_of v [] = record { above = 0; below = 1 }
value_of v (e ∷ es) =
    if e.variable == v then record { above = unsigned_abs e.constant; below = unsigned_abs e.divisor } else value_of v es

-- the price of a row: its slack's factor in the cost over the cost's divisor where the slack has a column, and 0
-- elsewhere. No factor of the cost is ever negative.
abbrev pub price_of : ℕ → ℤ → List ℕ → List ℤ → Fraction
price_of v divisor (w ∷ ws) (c ∷ cs) =
    if w == v then record { above = unsigned_abs c; below = unsigned_abs divisor } else price_of v divisor ws cs
price_of v divisor ws cs = record { above = 0; below = 1 }

-- the values of all unknowns: as many as there are columns
abbrev pub values_of : Tableau → List Fraction
values_of t = map (λ v. value_of v t.lines) (range_with_len 0 (length t.columns))

-- the prices of all rows: as many as there are lines. The slack of a row has a number past the unknowns.
abbrev pub prices_of : Tableau → List Fraction
prices_of t = map (λ v. price_of v t.cost.divisor t.columns t.cost.factors) (range_with_len (length t.columns) (length t.lines))

-- a unit makes each fraction of a list whole
abbrev pub makes_whole : ℕ → List Fraction → Bool
makes_whole unit [] = true
makes_whole unit (f ∷ fs) = nat_eq (unit * f.above % f.below) 0 && makes_whole unit fs

-- the least number from `unit` on that makes all of them whole, among the next `more` numbers
unfoldable pub least_from : ℕ → ℕ → List Fraction → ℕ
least_from unit zero fs = unit
least_from unit (suc more) fs = if makes_whole unit fs then unit else least_from (suc unit) more fs

-- a number that makes all of them whole: the product of the denominators
abbrev pub product_of : List Fraction → ℕ
product_of [] = 1
product_of (f ∷ fs) = f.below * product_of fs

-- the least unit that makes all of them whole. The code takes the least common multiple of the denominators in lowest
-- terms.
abbrev pub unit_of : List Fraction → ℕ
unit_of fs = least_from 1 (product_of fs) fs

-- a fraction in a unit
abbrev pub in_unit : ℕ → Fraction → ℕ
in_unit unit f = unit * f.above / f.below

-- all numbers in a unit are at most 2 to the 62
abbrev pub numbers_fit : ℕ → List Fraction → Bool
numbers_fit unit fs = list_all (λ f. nat_le (in_unit unit f) (2 ^ 62)) fs

-- the unit is too
abbrev pub unit_fits : ℕ → List Fraction → Bool
unit_fits unit fs = nat_le unit (2 ^ 62) && numbers_fit unit fs
