use Rattle.std.proofs.Common.{◌≡◌, map}
use Rattle.std.specs.Prelude.{All, ◌<◌, length}
use Rattle.std.specs.List.{range_with_len}
use Rattle.dual_simplex.specs.Answer.{price_of}
use Rattle.dual_simplex.proofs.answer.prices_of.Given as goal

abbrev pub invariant-loop-row : goal.invariant-loop-row
invariant-loop-row l = record {
  value : l.prices.items ≡ map (λ v. price_of v l.tableau.cost.divisor l.tableau.columns.items l.tableau.cost.factors.items) (range_with_len (length l.tableau.columns.items) l.row);
  positive : All (λ f. 0 < f.below) l.prices.items;
}
