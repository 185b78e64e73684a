use Rattle.std.proofs.Common.{arith}
use Rattle.value_text.proofs.Digits.{digits_on, digits_off}
use Rattle.value_text.proofs.ints.read_digits.Goals as goal

pub returns-in-None : goal.returns-in-None
returns-in-None c = digits_off c.args.most c.args.word.now c.digits.value c.digits.at (omega (arith, c.ranges.most.fits)) c.digits.invariant c.digits-test.true c.in-None.ensures

pub digits-preserved : goal.digits-preserved
digits-preserved c = digits_on c.args.most c.args.word.now c.digits.value c.digits.at c.in-Some.next (omega (arith, c.ranges.most.fits)) c.digits.invariant c.digits-test.true c.in-Some.ensures
