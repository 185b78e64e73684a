use Rattle.std.proofs.Common.{◌≡◌, drop}
use Rattle.dual_simplex.specs.Answer.{price_of}
use Rattle.dual_simplex.proofs.answer.price_of.Given as goal

abbrev pub invariant-loop-place : goal.invariant-loop-place
invariant-loop-place l = price_of l.slack l.cost.divisor (drop l.place l.columns) (drop l.place l.cost.factors.items) ≡ price_of l.slack l.cost.divisor l.columns l.cost.factors.items
