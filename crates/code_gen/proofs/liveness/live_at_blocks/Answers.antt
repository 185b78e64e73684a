use Rattle.std.proofs.Common.{◌-◌, refl, arith}
use Rattle.code_gen.proofs.Seeing.{seen_more}
use Rattle.code_gen.proofs.liveness.live_at_blocks.Goals as goal

pub loop-left-preserved : goal.loop-left-preserved
loop-left-preserved c =
    let test = c.loop-left-test.true in
    record {
      within = (let h = c.loop-left.invariant.within in omega (arith, h));
      seen = seen_more c.args.blocks.now (c.loop-left.left - 1) c.loop-left.left _ c.loop-left.seen.items c.deref.result.now c.push.new.self.items c.live_at-marks.result c.index-blocks-left.result
          (omega (arith, test)) c.loop-left.invariant.within refl c.deref.ensures.value c.in_ok-push.ensures.items c.index-blocks-left.is c.live_at-marks.ensures c.loop-left.invariant.seen;
    }
