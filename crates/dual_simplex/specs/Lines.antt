-- Private: words for functions of this crate. What the code's lines and tableau stand for, and what holds of them.
use Rattle.std.specs.Prelude.{◌≡◌, ℕ, ◌≤◌, pos, unsigned_abs, ◌<ℤ◌, map, length, true, All}
use Rattle.dual_simplex.specs.Equation.{Equation, fits}
use Rattle.dual_simplex.specs.Tableau.{Tableau as PlainTableau}
use Rattle.dual_simplex.specs.declared.line.Line.{Line}
use Rattle.dual_simplex.specs.declared.tableau.Tableau.{Tableau}

-- the equation that a line stands for
abbrev pub plain_line : Line → Equation
plain_line line = record { variable = line.variable; divisor = line.divisor; constant = line.constant; factors = line.factors.items }

-- an equation over `width` columns with a positive divisor and small numbers
pub record IsSoundLine (width : ℕ) (e : Equation) : Type 0 where
  pub columns : length e.factors ≡ width
  pub positive : pos 0 <ℤ e.divisor
  pub small : fits e ≡ true

-- no number of an equation is above `bound` in size
pub record IsWithin (bound : ℕ) (e : Equation) : Type 0 where
  pub divisor : unsigned_abs e.divisor ≤ bound
  pub constant : unsigned_abs e.constant ≤ bound
  pub factors : All (λ x. unsigned_abs x ≤ bound) e.factors

-- the tableau that the code's one stands for
abbrev pub plain_tableau : Tableau → PlainTableau
plain_tableau t = record { columns = t.columns.items; lines = map plain_line t.lines.items; cost = plain_line t.cost }

-- what holds of a tableau between pivots
pub record IsSoundTableau (t : Tableau) : Type 0 where
  pub lines : All (λ line. IsSoundLine (length t.columns.items) (plain_line line)) t.lines.items
  pub cost : IsSoundLine (length t.columns.items) (plain_line t.cost)
  pub spare : length t.solved.factors.items ≡ length t.columns.items
