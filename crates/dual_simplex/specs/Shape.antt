-- Cited by contracts. The shape of a tableau.
use Rattle.std.specs.Prelude.{◌≡◌, ◌≢◌, ℕ, pos, ◌<◌, ◌≤ℤ◌, length, slice_index_or}
use Rattle.dual_simplex.specs.Equation.{factor_at}
use Rattle.dual_simplex.specs.Tableau.{Tableau, line_at}
use Rattle.dual_simplex.specs.Systems.{Inequalities}

-- A tableau of a system: a column for each unknown and a line for each row; a factor for each column in each equation;
-- no variable in two places; and no negative factor in the cost.
pub record IsWellShaped (system : Inequalities) (t : Tableau) : Type 0 where
  pub columns : length t.columns ≡ system.unknowns
  pub lines : length t.lines ≡ length system.rows
  pub line_factors : (i : ℕ) → i < length t.lines → length (line_at t i).factors ≡ length t.columns
  pub cost_factors : length t.cost.factors ≡ length t.columns
  pub lines_apart : (i k : ℕ) → i < length t.lines → k < length t.lines → (line_at t i).variable ≡ (line_at t k).variable → i ≡ k
  pub columns_apart : (j k : ℕ) → j < length t.columns → k < length t.columns → slice_index_or t.columns j 0 ≡ slice_index_or t.columns k 0 → j ≡ k
  pub apart : (i j : ℕ) → i < length t.lines → j < length t.columns → (line_at t i).variable ≢ slice_index_or t.columns j 0
  pub costs : (j : ℕ) → j < length t.columns → pos 0 ≤ℤ factor_at j t.cost
