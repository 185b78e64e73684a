use Rattle.grail_code.specs.Code.{func_of}
use Rattle.lp_solution.specs.Taking.{blocks_from, behind_blocks, own_blocks}
use Rattle.lp_solution.proofs.Takings.{block_pushed, behind_pushed}
use Rattle.lp_solution.proofs.lines.blocks.Goals as goal

pub blocks-2-preserved : goal.blocks-2-preserved
blocks-2-preserved c = record {
  value = block_pushed c.args.typed.types.now (func_of c.args.func.now) c.blocks-2.blocks.items c.push.new.self.items c.in_ok-block.field-0 (blocks_from c.args.typed.types.now (func_of c.args.func.now) (own_blocks (func_of c.args.func.now)) c.args.values.now) c.blocks-2.number c.len-count.result
      c.blocks-2.values c.block.new.values c.in_ok-push.ensures.items c.in_ok-block.ensures.value c.in_ok-block.ensures.left c.blocks-2-test.true c.blocks-2.invariant.value;
  left = behind_pushed c.args.typed.types.now (func_of c.args.func.now) (behind_blocks c.args.typed.types.now (func_of c.args.func.now) (own_blocks (func_of c.args.func.now)) c.args.values.now) c.blocks-2.number c.len-count.result
      c.blocks-2.values c.block.new.values c.in_ok-block.ensures.left c.blocks-2-test.true c.blocks-2.invariant.left;
}
