use Rattle.std.proofs.Common.{arith}
use Rattle.dual_simplex.proofs.Units.{unit_none, unit_turn, unit_is, unit_large, unit_all}
use Rattle.dual_simplex.proofs.answer.unit_of.Goals as goal

pub loop-fraction-init : goal.loop-fraction-init
loop-fraction-init c = record { small = omega arith; unit = unit_none }

pub loop-fraction-preserved : goal.loop-fraction-preserved
loop-fraction-preserved c = record {
  small = c.in_ok-unit.ensures.0;
  unit = unit_turn c.args.fractions.now c.loop-fraction.fraction-index (record { above = 0; below = 0 }) c.loop-fraction.unit c.in_ok-unit.unit c.loop-fraction-test.true c.loop-fraction.invariant.unit c.in_ok-unit.ensures.1;
}

pub returns : goal.returns
returns c = (
  unit_is c.args.fractions.now c.loop-fraction.unit c.requires (unit_all c.args.fractions.now c.loop-fraction.fraction-index c.loop-fraction.unit c.loop-fraction-test.false c.loop-fraction.invariant.unit),
  c.loop-fraction.invariant.small,
)

pub returns-in_err-unit : goal.returns-in_err-unit
returns-in_err-unit c =
    rw c.from_residual.ensures (unit_large c.args.fractions.now c.loop-fraction.fraction-index (record { above = 0; below = 0 }) c.loop-fraction.unit c.requires c.loop-fraction-test.true c.loop-fraction.invariant.unit c.in_err-unit.ensures)
