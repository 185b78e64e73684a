-- Cited by contracts. The run of a system: the dual simplex method (Lemke 1954) by least indices (Bland 1977), for at
-- most 4,096 pivots.
use Rattle.std.specs.Prelude.{◌≡◌, ℕ, zero, suc, List, ◌&&◌, true, false, map, if◌then◌else◌}
use Rattle.dual_simplex.specs.Tableau.{Tableau, all_fit, line_at, pivoted}
use Rattle.dual_simplex.specs.Choices.{IsLeaving, NoLeaving, IsEntering, NoEntering}
use Rattle.dual_simplex.specs.Answer.{values_of, prices_of, unit_of, unit_fits, in_unit}
use Rattle.dual_simplex.specs.Systems.{Inequalities, first_tableau}
use Rattle.dual_simplex.specs.declared.system.Solved.{Solved}
use Rattle.dual_simplex.specs.declared.system.Solved.TheVariants as code

-- How a run ends: with a solution and its prices, each over a unit; with the variable of a line that can't be met;
-- after that many pivots with a number above 2 to the 62 in size; or with its pivots spent.
pub data Outcome : Type 0 where
  Least : ℕ → List ℕ → ℕ → List ℕ → Outcome
  Nothing : ℕ → Outcome
  Wide : ℕ → Outcome
  Spent : Outcome

-- a run ends after `pivot` pivots with a solution, unless a number of the answer is above 2 to the 62
abbrev pub ended : ℕ → Tableau → Outcome
ended pivot t =
    if unit_fits (unit_of (values_of t)) (values_of t) && unit_fits (unit_of (prices_of t)) (prices_of t)
    then Least (unit_of (values_of t)) (map (in_unit (unit_of (values_of t))) (values_of t)) (unit_of (prices_of t)) (map (in_unit (unit_of (prices_of t))) (prices_of t))
    else Wide pivot

-- What a turn makes of a tableau after `pivot` pivots, in this order: how many pivots the whole run makes, and its
-- outcome. `next` says so of the pivoted tableau.
pub data Turn (pivot : ℕ) (t : Tableau) (next : Tableau → ℕ → Outcome → Type 0) (pivots : ℕ) (o : Outcome) : Type 0 where
  too_wide : all_fit t ≡ false → pivots ≡ pivot → o ≡ Wide pivot → Turn pivot t next pivots o
  ends : all_fit t ≡ true → NoLeaving t → pivots ≡ pivot → o ≡ ended pivot t → Turn pivot t next pivots o
  unmet : (i : ℕ) → all_fit t ≡ true → IsLeaving t i → NoEntering t (line_at t i) → pivots ≡ pivot → o ≡ Nothing (line_at t i).variable
      → Turn pivot t next pivots o
  goes : (i j : ℕ) → all_fit t ≡ true → IsLeaving t i → IsEntering t (line_at t i) j → next (pivoted t (line_at t i) j) pivots o → Turn pivot t next pivots o

-- the run from a tableau after `pivot` pivots, with `left` pivots to go
unfoldable pub IsRunFrom : ℕ → ℕ → Tableau → ℕ → Outcome → Type 0
IsRunFrom zero pivot t pivots o = Turn pivot t (λ _ made e. (made ≡ pivot) × (e ≡ Spent)) pivots o
IsRunFrom (suc left) pivot t pivots o = Turn pivot t (IsRunFrom left (suc pivot)) pivots o

-- the run of a system makes so many pivots, and ends so
abbrev pub IsRun : Inequalities → ℕ → Outcome → Type 0
IsRun system pivots o = IsRunFrom 4096 0 (first_tableau system) pivots o

-- the run of a system ends so
pub record IsOutcome (system : Inequalities) (o : Outcome) : Type 0 where
  pub pivots : ℕ
  pub run : IsRun system pivots o

-- a system has just one run
pub record HasOneRun (system : Inequalities) : Type 0 where
  pub pivots : ℕ
  pub outcome : Outcome
  pub run : IsRun system pivots outcome
  pub only : (n : ℕ) (o : Outcome) → IsRun system n o → (n ≡ pivots) × (o ≡ outcome)

-- a pivot of the method leads from a tableau, of which `Before` holds, to another
pub record IsPivot (Before : Tableau → Type 0) (t : Tableau) : Type 0 where
  pub before : Tableau
  pub holds : Before before
  pub line : ℕ
  pub column : ℕ
  pub leaving : IsLeaving before line
  pub entering : IsEntering before (line_at before line) column
  pub pivots : t ≡ pivoted before (line_at before line) column

-- a tableau of the run of a system, after so many pivots
abbrev pub IsTableauOf : Inequalities → ℕ → Tableau → Type 0
IsTableauOf system zero t = t ≡ first_tableau system
IsTableauOf system (suc n) t = IsPivot (IsTableauOf system n) t

-- what the code's answer stands for
abbrev pub plain_answer : Solved → Outcome
plain_answer (code.Least unit values price_unit prices) = Least unit values.items price_unit prices.items
plain_answer (code.Nothing variable) = Nothing variable
plain_answer (code.Wide pivot) = Wide pivot
plain_answer code.Spent = Spent
