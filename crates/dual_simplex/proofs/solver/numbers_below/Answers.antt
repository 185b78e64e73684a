use Rattle.dual_simplex.proofs.Scans.{range_turn}
use Rattle.dual_simplex.proofs.solver.numbers_below.Goals as goal

pub loop-number-preserved : goal.loop-number-preserved
loop-number-preserved c = range_turn c.loop-number.number c.loop-number.numbers.items c.push.new.self.items c.in_ok-push.ensures.items c.loop-number.invariant
