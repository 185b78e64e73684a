use Rattle.std.proofs.Common.{◌≤◌, ◌^◌, take}
use Rattle.dual_simplex.proofs.Units.{IsUnit}
use Rattle.dual_simplex.proofs.answer.unit_of.Given as goal

abbrev pub invariant-loop-fraction : goal.invariant-loop-fraction
invariant-loop-fraction l = record {
  small : l.unit ≤ 2 ^ 62;
  unit : IsUnit (take l.fraction-index l.fractions) l.unit;
}
