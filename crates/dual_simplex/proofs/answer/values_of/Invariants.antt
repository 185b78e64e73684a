use Rattle.std.proofs.Common.{◌≡◌, map}
use Rattle.std.specs.Prelude.{All, ◌<◌}
use Rattle.std.specs.List.{range_with_len}
use Rattle.dual_simplex.specs.Answer.{value_of}
use Rattle.dual_simplex.specs.Lines.{plain_line}
use Rattle.dual_simplex.proofs.answer.values_of.Given as goal

abbrev pub invariant-loop-variable : goal.invariant-loop-variable
invariant-loop-variable l = record {
  value : l.values.items ≡ map (λ v. value_of v (map plain_line l.tableau.lines.items)) (range_with_len 0 l.variable);
  positive : All (λ f. 0 < f.below) l.values.items;
}
