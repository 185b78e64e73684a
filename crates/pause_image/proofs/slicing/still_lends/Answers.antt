use Rattle.std.proofs.Common.{arith}
use Rattle.pause_image.specs.SliceLaws.{above_lends, at_lends}
use Rattle.pause_image.proofs.slicing.still_lends.Goals as goal

pub returns-then-waiting-lender-clause-lends : goal.returns-then-waiting-lender-clause-lends
returns-then-waiting-lender-clause-lends c = above_lends c.args.machine.now.code c.args.machine.now.state c.args.lender c.requires (omega (arith, c.if-waiting-lender.true, c.waiting-waiting.ensures))

pub returns-clause-lends : goal.returns-clause-lends
returns-clause-lends c = at_lends c.args.machine.now.code c.args.machine.now.state c.args.lender c.running_lends.result c.requires
    (omega (arith, c.if-waiting-lender.false, c.if-waiting-lender-2.false, c.waiting-waiting.ensures)) c.running_lends.ensures
