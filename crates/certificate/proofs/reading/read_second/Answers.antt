use Rattle.std.proofs.Common.{arith}
use Rattle.certificate.proofs.Stopping.{unit_early}
use Rattle.certificate.proofs.Starting.{second_wrong, second_wide, second_read}
use Rattle.certificate.proofs.reading.read_second.Goals as goal

pub returns-in_default : goal.returns-in_default
returns-in_default c = unit_early c.args.text.now c.args.rest.now c.requires c.in_default.ensures

pub returns-in_default-read_unit : goal.returns-in_default-read_unit
returns-in_default-read_unit c = second_wrong c.args.text.now c.args.rest.now c.in-Some.line.now c.in-Some.after.now c.requires c.in-Some.ensures c.in_default-read_unit.ensures

pub returns-then-unit-gt-MOST_UNITS : goal.returns-then-unit-gt-MOST_UNITS
returns-then-unit-gt-MOST_UNITS c = second_wide c.args.text.now c.args.rest.now c.in-Some.line.now c.in-Some.after.now c.in-Some-read_unit.unit c.requires c.in-Some.ensures c.in-Some-read_unit.ensures (omega arith)

pub returns : goal.returns
returns c = second_read c.args.text.now c.args.rest.now c.in-Some.line.now c.in-Some.after.now c.in-Some-read_unit.unit c.requires c.in-Some.ensures c.in-Some-read_unit.ensures (omega arith)
