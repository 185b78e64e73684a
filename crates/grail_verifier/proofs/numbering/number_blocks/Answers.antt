use Rattle.certificate.specs.Words.{block_of}
use Rattle.grail_verifier.specs.Numbered.{block_in}
use Rattle.grail_verifier.proofs.Keeping.{keeps_on, loop_more}
use Rattle.grail_verifier.proofs.numbering.number_blocks.Goals as goal

pub lines-preserved : goal.lines-preserved
lines-preserved c = record {
  keeps = keeps_on c.args.held.now c.lines.held c.number_block.new.held c.lines.invariant.keeps c.in_ok-block.ensures.keeps;
  said = loop_more block_in block_of c.lines.held c.number_block.new.held c.lines.blocks.items c.push.new.self.items _ c.args.lines.now c.lines.line-index c.line-item.result c.lines.invariant.said c.in_ok-block.ensures.keeps
      (c.in_ok-block.ensures.said) c.lines-test.true c.line-item.is c.in_ok-push.ensures.items;
}
