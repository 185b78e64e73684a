-- Cited by contracts. The tableau of the dual simplex method, and one pivot of it.
use Rattle.std.specs.Prelude.{ℕ, pos, List, [], map, Bool, ◌&&◌, ◌==◌, if◌then◌else◌, slice_index_or, slice_set}
use Rattle.std.specs.List.{list_all}
use Rattle.dual_simplex.specs.Equation.{Equation, fits, solved_for, put_in}

-- The equations of the basic variables, and that of the cost, over the variables of the columns, which aren't basic.
-- A pivot lets a basic variable and a column's trade places, so a column stands for one variable after another.
pub record Tableau : Type 0 where
  pub columns : List ℕ
  pub lines : List Equation
  pub cost : Equation

-- no line at a place that isn't there
abbrev pub no_line : Equation
no_line = record { variable = 0; divisor = pos 1; constant = pos 0; factors = [] }

-- the line at a place
abbrev pub line_at : Tableau → ℕ → Equation
line_at t place = slice_index_or t.lines place no_line

-- no number of the tableau is above 2 to the 62 in size
abbrev pub all_fit : Tableau → Bool
all_fit t = fits t.cost && list_all fits t.lines

-- the equation of a line after a pivot: the leaving line is solved for the entering variable, and put into every other
-- one
abbrev pub renewed : ℕ → ℕ → Equation → Equation → Equation
renewed leaver place solved e = if e.variable == leaver then solved else put_in place solved e

-- one pivot: `line` leaves the basis, and the variable of the column at `place` enters it
abbrev pub pivoted : Tableau → Equation → ℕ → Tableau
pivoted t line place =
    let solved = solved_for place (slice_index_or t.columns place 0) line in
    record {
      columns = slice_set t.columns place line.variable;
      lines = map (renewed line.variable place solved) t.lines;
      cost = put_in place solved t.cost;
    }
