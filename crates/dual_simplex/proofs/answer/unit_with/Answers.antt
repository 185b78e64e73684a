use Rattle.std.proofs.Common.{arith}
use Rattle.dual_simplex.proofs.Divisors.{common_positive, common_positive_right}
use Rattle.dual_simplex.proofs.Units.{multiple_is, none_is}
use Rattle.dual_simplex.proofs.answer.unit_with.Goals as goal

pub nonzero_div-denominator : goal.nonzero_div-denominator
nonzero_div-denominator c = common_positive_right _ _ _ c.requires.below c.greatest_common-shared.ensures

pub nonzero_div-multiple : goal.nonzero_div-multiple
nonzero_div-multiple c = common_positive _ _ _ c.requires.unit.0 c.greatest_common-common.ensures

pub returns-then-multiple-le-LIMIT : goal.returns-then-multiple-le-LIMIT
returns-then-multiple-le-LIMIT c = (
  omega arith,
  multiple_is c.args.unit c.args.fraction _ _ c.requires.unit.0 c.requires.below
      (common_positive_right _ _ _ c.requires.below c.greatest_common-shared.ensures)
      (common_positive _ _ _ c.requires.unit.0 c.greatest_common-common.ensures)
      c.greatest_common-shared.ensures c.greatest_common-common.ensures,
)

pub returns-else-multiple-le-LIMIT : goal.returns-else-multiple-le-LIMIT
returns-else-multiple-le-LIMIT c =
    none_is c.args.unit c.args.fraction _
    (multiple_is c.args.unit c.args.fraction _ _ c.requires.unit.0 c.requires.below
    (common_positive_right _ _ _ c.requires.below c.greatest_common-shared.ensures)
    (common_positive _ _ _ c.requires.unit.0 c.greatest_common-common.ensures)
    c.greatest_common-shared.ensures c.greatest_common-common.ensures)
    (omega arith)
