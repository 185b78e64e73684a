-- Private: words for functions of this crate.
-- Forms over the unknowns of a code as numbers of 64 bits in the unknowns' order: a number of cells, and a factor for
-- each unknown. Sums and differences wrap; the forms of a code's checks are so small that nothing is cut.
use Rattle.std.specs.Prelude.{ℕ, suc, ℤ, pos, List, [], ◌∷◌, map, if◌then◌else◌, cond}
use Rattle.std.specs.Int.{w64, int_wrapping_add, int_wrapping_sub}
use Rattle.dual_simplex.specs.declared.system.Summand.{Summand}
use Rattle.dual_simplex.specs.Systems.{Inequality}
use Rattle.licence.specs.Rules.{Amounts}
use Rattle.lp_system.specs.Unknowns.{Unknown, same}
use Rattle.lp_system.specs.Forms.{is_zero}

pub record Dense : Type 0 where
  pub constant : ℤ
  pub factors : List ℤ

abbrev pub more : ℤ → ℤ → ℤ
more x y = cond (is_zero y) x (int_wrapping_add w64 x y)

abbrev pub less : ℤ → ℤ → ℤ
less x y = cond (is_zero y) x (int_wrapping_sub w64 x y)

abbrev pub sums : List ℤ → List ℤ → List ℤ
sums [] ys = []
sums (x ∷ xs) [] = x ∷ xs
sums (x ∷ xs) (y ∷ ys) = more x y ∷ sums xs ys

abbrev pub differences : List ℤ → List ℤ → List ℤ
differences [] ys = []
differences (x ∷ xs) [] = x ∷ xs
differences (x ∷ xs) (y ∷ ys) = less x y ∷ differences xs ys

abbrev pub plus : Dense → Dense → Dense
plus a b = record { constant = more a.constant b.constant; factors = sums a.factors b.factors }

abbrev pub minus : Dense → Dense → Dense
minus a b = record { constant = less a.constant b.constant; factors = differences a.factors b.factors }

abbrev pub dense : Amounts Dense
dense = record { plus = plus; minus = minus }

-- how often an unknown stands in another one
abbrev pub tick : Unknown → Unknown → ℤ
tick u v = if same u v then pos 1 else pos 0

abbrev pub ticks : List Unknown → Unknown → List ℤ
ticks us u = map (tick u) us

-- an unknown once, and so many cells
abbrev pub once_with : List Unknown → ℤ → Unknown → Dense
once_with us cells u = record { constant = cells; factors = ticks us u }

abbrev pub nothings : List Unknown → List ℤ
nothings us = map (λ u. pos 0) us

-- ---- rows

-- the term of the unknown of this number, where the factor isn't 0
abbrev pub term_at : ℕ → ℤ → List Summand
term_at number factor = cond (is_zero factor) [] (record { unknown = number; factor = factor } ∷ [])

-- terms from the unknown of this number on
abbrev pub terms_less : ℕ → List ℤ → List ℤ → List Summand
terms_less number [] ys = []
terms_less number (x ∷ xs) [] = []
terms_less number (x ∷ xs) (y ∷ ys) = cond (is_zero (less x y)) (terms_less (suc number) xs ys) (record { unknown = number; factor = less x y } ∷ terms_less (suc number) xs ys)

-- at least as much is there as is asked
abbrev pub row : Dense → Dense → Inequality
row have need = record { terms = terms_less 0 have.factors need.factors; least = int_wrapping_sub w64 need.constant have.constant }
