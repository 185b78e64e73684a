-- Cited by contracts. Which variables trade places in a pivot, told of the lines and columns of a tableau.
use Rattle.std.specs.Prelude.{◌≡◌, ℕ, pos, ◌*ℤ◌, ◌<ℤ◌, ◌≤ℤ◌, ◌<◌, ◌≤◌, ◌⊎◌, length, slice_index_or}
use Rattle.dual_simplex.specs.Equation.{Equation, factor_at}
use Rattle.dual_simplex.specs.Tableau.{Tableau, line_at}

-- The basic variable of this line leaves the basis: its constant is negative, and of the basic variables with a
-- negative constant none has a lesser number (Bland 1977).
pub record IsLeaving (t : Tableau) (i : ℕ) : Type 0 where
  pub inside : i < length t.lines
  pub negative : (line_at t i).constant <ℤ pos 0
  pub least : (k : ℕ) → k < length t.lines → (line_at t k).constant <ℤ pos 0 → (line_at t i).variable ≤ (line_at t k).variable

-- none leaves: no constant is negative
abbrev pub NoLeaving : Tableau → Type 0
NoLeaving t = (i : ℕ) → i < length t.lines → pos 0 ≤ℤ (line_at t i).constant

-- The ratio of one column, its factor in the cost over that in the leaving line, is at most another's. Both factors in
-- the line are positive.
abbrev pub RatioAtMost : Tableau → Equation → ℕ → ℕ → Type 0
RatioAtMost t line i j = (factor_at i t.cost *ℤ factor_at j line) ≤ℤ (factor_at j t.cost *ℤ factor_at i line)

-- The variable of this column enters the basis: its factor in the leaving line is positive, of all such columns it has
-- the least ratio (Lemke 1954), and of those with the same ratio the least number (Bland 1977).
pub record IsEntering (t : Tableau) (line : Equation) (j : ℕ) : Type 0 where
  pub inside : j < length t.columns
  pub positive : pos 0 <ℤ factor_at j line
  pub least : (k : ℕ) → k < length t.columns → pos 0 <ℤ factor_at k line → RatioAtMost t line j k
  pub ties : (k : ℕ) → k < length t.columns → pos 0 <ℤ factor_at k line → RatioAtMost t line k j
      → slice_index_or t.columns j 0 ≤ slice_index_or t.columns k 0

-- none enters: no factor of the line is positive
abbrev pub NoEntering : Tableau → Equation → Type 0
NoEntering t line = (j : ℕ) → j < length t.columns → factor_at j line ≤ℤ pos 0

-- just one place is picked
pub record Picks (Picked : ℕ → Type 0) : Type 0 where
  pub place : ℕ
  pub picked : Picked place
  pub only : (k : ℕ) → Picked k → k ≡ place

-- either none leaves, or just one
abbrev pub PicksLine : Tableau → Type 0
PicksLine t = NoLeaving t ⊎ Picks (IsLeaving t)

-- either none enters, or just one
abbrev pub PicksColumn : Tableau → Equation → Type 0
PicksColumn t line = NoEntering t line ⊎ Picks (IsEntering t line)
