-- Cited by contracts. Systems of linear inequalities as plain data, and their first tableau.
use Rattle.std.specs.Prelude.{◌≡◌, ℕ, suc, ◌+◌, ◌<◌, ◌≤◌, ◌^◌, ℤ, pos, neg_ℤ, ◌≤ℤ◌, List, [], ◌∷◌, map, length, replicate, slice_set, All, unsigned_abs, ⊤}
use Rattle.std.specs.List.{range_with_len}
use Rattle.dual_simplex.specs.Equation.{Equation}
use Rattle.dual_simplex.specs.Tableau.{Tableau}
use Rattle.dual_simplex.specs.declared.system.Summand.{Summand}
use Rattle.dual_simplex.specs.declared.system.Row.{Row}
use Rattle.dual_simplex.specs.declared.system.System.{System}

-- the sum of the terms, each a factor times an unknown, is at least `least`
pub record Inequality : Type 0 where
  pub terms : List Summand
  pub least : ℤ

-- unknowns that are at least 0, a cost for each, and rows that a solution meets
pub record Inequalities : Type 0 where
  pub unknowns : ℕ
  pub costs : List ℤ
  pub rows : List Inequality

-- what the code's types stand for
abbrev pub plain_row : Row → Inequality
plain_row row = record { terms = row.terms.items; least = row.least }

abbrev pub plain_system : System → Inequalities
plain_system system = record { unknowns = system.unknowns; costs = system.costs.items; rows = map plain_row system.rows.items }

-- the unknowns of the terms ascend, from `low` on, and are below `unknowns`, and no factor is above 2 to the 31 in size
abbrev pub IsAscending : ℕ → ℕ → List Summand → Type 0
IsAscending unknowns low [] = ⊤
IsAscending unknowns low (t ∷ ts) = (low ≤ t.unknown) × (t.unknown < unknowns) × (unsigned_abs t.factor ≤ 2 ^ 31) × IsAscending unknowns (suc t.unknown) ts

-- a row whose numbers are in range
pub record IsProperRow (unknowns : ℕ) (row : Inequality) : Type 0 where
  pub ascending : IsAscending unknowns 0 row.terms
  pub least : unsigned_abs row.least ≤ 2 ^ 31

-- a system that `solve` takes
pub record IsProper (system : Inequalities) : Type 0 where
  pub costs : length system.costs ≡ system.unknowns
  pub not_negative : All (λ cost. (pos 0 ≤ℤ cost) × (unsigned_abs cost ≤ 2 ^ 31)) system.costs
  pub rows : All (IsProperRow system.unknowns) system.rows
  pub few : system.unknowns + length system.rows < 2 ^ 32

-- each term's factor put at its unknown's place
abbrev pub spread : List ℤ → List Summand → List ℤ
spread factors [] = factors
spread factors (t ∷ ts) = spread (slice_set factors t.unknown t.factor) ts

-- the equation of a row's slack: the sum of its terms minus `least`
abbrev pub slack_line : ℕ → ℕ → Inequality → Equation
slack_line unknowns variable row = record {
  variable = variable;
  divisor = pos 1;
  constant = neg_ℤ row.least;
  factors = spread (replicate unknowns (pos 0)) row.terms;
}

-- the equations of all slacks, numbered from `variable` on
abbrev pub slack_lines : ℕ → ℕ → List Inequality → List Equation
slack_lines unknowns variable [] = []
slack_lines unknowns variable (row ∷ rows) = slack_line unknowns variable row ∷ slack_lines unknowns (suc variable) rows

-- The first tableau: the unknowns, numbered from 0, have the columns, and the slacks, numbered after them, are basic.
-- The cost has the number after the last slack's.
abbrev pub first_tableau : Inequalities → Tableau
first_tableau system = record {
  columns = range_with_len 0 system.unknowns;
  lines = slack_lines system.unknowns system.unknowns system.rows;
  cost = record { variable = system.unknowns + length system.rows; divisor = pos 1; constant = pos 0; factors = system.costs };
}
