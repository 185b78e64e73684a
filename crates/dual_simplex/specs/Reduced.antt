-- Cited by contracts. Equations in lowest terms.
use Rattle.std.specs.Prelude.{◌≡◌, ℕ, pos, ◌<ℤ◌, ◌<◌, ◌∷◌, length}
use Rattle.dual_simplex.specs.Division.{DividesAll}
use Rattle.dual_simplex.specs.Equation.{Equation, factor_at}
use Rattle.dual_simplex.specs.Tableau.{Tableau, pivoted, line_at}

-- the divisor is positive, and no number but 1 divides all numbers of the equation
pub record IsReduced (e : Equation) : Type 0 where
  pub positive : pos 0 <ℤ e.divisor
  pub lowest : (h : ℕ) → DividesAll h (e.divisor ∷ e.constant ∷ e.factors) → h ≡ 1

-- all equations of a tableau are
pub record AllReduced (t : Tableau) : Type 0 where
  pub lines : (i : ℕ) → i < length t.lines → IsReduced (line_at t i)
  pub cost : IsReduced t.cost

-- a pivot keeps that
abbrev pub StaysReduced : Tableau → Type 0
StaysReduced t =
    (i place : ℕ) → AllReduced t → i < length t.lines → place < length (line_at t i).factors → pos 0 <ℤ factor_at place (line_at t i)
    → AllReduced (pivoted t (line_at t i) place)
