use Rattle.grail_code.specs.Code.{block_of}
use Rattle.grail_code.specs.WellFormed.{looked_at}
use Rattle.grail_check.proofs.LentLaws.{looked_more}
use Rattle.grail_check.proofs.lent.mark_blocks.Goals as goal

pub each-preserved : goal.each-preserved
each-preserved c = looked_more block_of (λ b. looked_at b.term) c.args.reads.now c.each.reads c.mark_term.new.reads c.args.blocks.now c.each.block-index c.block-item.result
    c.each-test.true c.block-item.is c.mark_term.ensures c.each.invariant
