use Rattle.camelot_values.proofs.ReachSteps.{one_number_on}
use Rattle.camelot_values.proofs.reached.push_numbers.Goals as goal

pub loop-number-preserved : goal.loop-number-preserved
loop-number-preserved c = one_number_on c.push.new.self.items c.loop-number.found.items _ c.loop-number.number _ c.loop-number-test.true c.in_ok-push.ensures.items c.loop-number.invariant
