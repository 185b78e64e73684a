use Rattle.std.proofs.Common.{◌≡◌, map, take, true}
use Rattle.dual_simplex.specs.Answer.{in_unit, numbers_fit}
use Rattle.dual_simplex.proofs.answer.in_unit.Given as goal

abbrev pub invariant-loop-fraction : goal.invariant-loop-fraction
invariant-loop-fraction l = record {
  value : l.numbers.items ≡ map (in_unit l.unit) (take l.fraction-index l.fractions);
  fit : numbers_fit l.unit (take l.fraction-index l.fractions) ≡ true;
}
