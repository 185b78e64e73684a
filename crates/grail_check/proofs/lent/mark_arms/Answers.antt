use Rattle.grail_code.specs.Code.{arm_of}
use Rattle.grail_code.specs.WellFormed.{looked_by}
use Rattle.grail_check.proofs.LentLaws.{looked_more}
use Rattle.grail_check.proofs.lent.mark_arms.Goals as goal

pub arms-preserved : goal.arms-preserved
arms-preserved c = looked_more arm_of (λ a. looked_by a.cell a.fields) c.args.reads.now c.arms.reads c.mark_arm.new.reads c.args.arms.now c.arms.arm-index c.arm-item.result
    c.arms-test.true c.arm-item.is c.mark_arm.ensures c.arms.invariant
