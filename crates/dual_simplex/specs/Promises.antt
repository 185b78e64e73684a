-- Cited by contracts. What the outcome of a run says of its system.
use Rattle.std.specs.Prelude.{◌≡◌, ℕ, pos, ◌*ℤ◌, List, ⊤, ◌≤◌}
use Rattle.dual_simplex.specs.Systems.{Inequalities}
use Rattle.dual_simplex.specs.Feasible.{IsFeasible, IsLeast, IsDualFeasible, cost_at, worth}
use Rattle.dual_simplex.specs.Run.{Outcome, Least, Nothing, Wide, Spent}

-- at Least the values over their unit are feasible, and no feasible solution costs less
abbrev pub SaysLeast : Inequalities → Outcome → Type 0
SaysLeast system (Least unit values price_unit prices) = IsLeast system unit values
SaysLeast system (Nothing variable) = ⊤
SaysLeast system (Wide pivot) = ⊤
SaysLeast system Spent = ⊤

-- at Least the prices over their unit are dual feasible, and worth what the values cost
abbrev pub SaysPrices : Inequalities → Outcome → Type 0
SaysPrices system (Least unit values price_unit prices) =
    IsDualFeasible system price_unit prices × ((worth system.rows prices *ℤ pos unit) ≡ (cost_at system values *ℤ pos price_unit))
SaysPrices system (Nothing variable) = ⊤
SaysPrices system (Wide pivot) = ⊤
SaysPrices system Spent = ⊤

-- at Nothing no solution is feasible
abbrev pub SaysNothing : Inequalities → Outcome → Type 0
SaysNothing system (Least unit values price_unit prices) = ⊤
SaysNothing system (Nothing variable) = (unit : ℕ) (point : List ℕ) → ¬ IsFeasible system unit point
SaysNothing system (Wide pivot) = ⊤
SaysNothing system Spent = ⊤

-- The count of pivots agrees with the outcome: all of them at Spent, the pivot that Wide names, and never more than
-- 4,096.
abbrev pub SaysPivots : ℕ → Outcome → Type 0
SaysPivots pivots (Least unit values price_unit prices) = pivots ≤ 4096
SaysPivots pivots (Nothing variable) = pivots ≤ 4096
SaysPivots pivots (Wide pivot) = (pivots ≡ pivot) × (pivots ≤ 4096)
SaysPivots pivots Spent = pivots ≡ 4096
