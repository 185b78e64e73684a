-- Cited by contracts. What solving a system of inequalities means. A rational point is given by natural numbers over
-- one positive unit.
use Rattle.std.specs.Prelude.{◌≡◌, ℕ, ◌<◌, ℤ, pos, ◌+ℤ◌, ◌*ℤ◌, ◌≤ℤ◌, List, [], ◌∷◌, length, All, slice_index, slice_index_or, ◌==◌, if◌then◌else◌}
use Rattle.dual_simplex.specs.declared.system.Summand.{Summand}
use Rattle.dual_simplex.specs.Systems.{Inequality, Inequalities}

-- the sum of a row's terms at a point
abbrev pub sum_at : List ℕ → List Summand → ℤ
sum_at point [] = pos 0
sum_at point (t ∷ ts) = (t.factor *ℤ pos (slice_index point t.unknown)) +ℤ sum_at point ts

-- a row is met: the sum of its terms is at least `least`, both times the unit
pub record IsMet (unit : ℕ) (point : List ℕ) (row : Inequality) : Type 0 where
  pub met : (row.least *ℤ pos unit) ≤ℤ sum_at point row.terms

-- a feasible solution: a number that is at least 0 for each unknown, which meet all rows
pub record IsFeasible (system : Inequalities) (unit : ℕ) (point : List ℕ) : Type 0 where
  pub unit_positive : 0 < unit
  pub numbers : length point ≡ system.unknowns
  pub rows : All (IsMet unit point) system.rows

-- the sum of two lists' products, place by place
abbrev pub total : List ℤ → List ℕ → ℤ
total (c ∷ cs) (x ∷ xs) = (c *ℤ pos x) +ℤ total cs xs
total cs xs = pos 0

-- what a point costs, times its unit
abbrev pub cost_at : Inequalities → List ℕ → ℤ
cost_at system point = total system.costs point

-- a feasible solution than which no feasible one costs less
pub record IsLeast (system : Inequalities) (unit : ℕ) (point : List ℕ) : Type 0 where
  pub feasible : IsFeasible system unit point
  pub least : (other_unit : ℕ) (other : List ℕ) → IsFeasible system other_unit other
      → (cost_at system point *ℤ pos other_unit) ≤ℤ (cost_at system other *ℤ pos unit)

-- the factors of an unknown in a row, added up
abbrev pub factor_of : ℕ → List Summand → ℤ
factor_of unknown [] = pos 0
factor_of unknown (t ∷ ts) = (if t.unknown == unknown then t.factor else pos 0) +ℤ factor_of unknown ts

-- an unknown's factors in all rows, each times the row's price, added up
abbrev pub priced : ℕ → List Inequality → List ℕ → ℤ
priced unknown (row ∷ rows) (price ∷ prices) = (factor_of unknown row.terms *ℤ pos price) +ℤ priced unknown rows prices
priced unknown rows prices = pos 0

-- what the rows ask for, each times its price, added up
abbrev pub worth : List Inequality → List ℕ → ℤ
worth (row ∷ rows) (price ∷ prices) = (row.least *ℤ pos price) +ℤ worth rows prices
worth rows prices = pos 0

-- a dual feasible solution: a price that is at least 0 for each row, by which no unknown is priced above its cost
pub record IsDualFeasible (system : Inequalities) (unit : ℕ) (prices : List ℕ) : Type 0 where
  pub unit_positive : 0 < unit
  pub numbers : length prices ≡ length system.rows
  pub columns : (unknown : ℕ) → unknown < system.unknowns → priced unknown system.rows prices ≤ℤ (slice_index_or system.costs unknown (pos 0) *ℤ pos unit)

-- Weak duality: what feasible prices are worth is at most what a feasible solution costs.
abbrev pub IsWeaklyDual : Inequalities → Type 0
IsWeaklyDual system =
    (unit price_unit : ℕ) (point prices : List ℕ) → IsFeasible system unit point → IsDualFeasible system price_unit prices
    → (worth system.rows prices *ℤ pos unit) ≤ℤ (cost_at system point *ℤ pos price_unit)
