use Rattle.std.proofs.Common.{◌+◌, ◌-◌, ◌/◌, arith}
use Rattle.hole_list.proofs.AtPlaces.{begins_more, begins_less}
use Rattle.hole_list.proofs.places.count_begin_before.Goals as goal

pub loop-low-preserved-then-runs-middle : goal.loop-low-preserved-then-runs-middle
loop-low-preserved-then-runs-middle c = record {
  low = begins_more c.args.runs.now c.args.first (c.loop-low.low + (c.loop-low.high - c.loop-low.low) / 2) _ c.requires (omega (arith, c.loop-low-test.true, c.loop-low.invariant.within)) c.if-runs-middle.true;
  high = c.loop-low.invariant.high;
  within = c.loop-low.invariant.within;
}

pub loop-low-preserved : goal.loop-low-preserved
loop-low-preserved c = record {
  low = c.loop-low.invariant.low;
  high = begins_less c.args.runs.now c.args.first (c.loop-low.low + (c.loop-low.high - c.loop-low.low) / 2) _ (omega (arith, c.loop-low-test.true, c.loop-low.invariant.within)) c.if-runs-middle.false;
  within = omega (arith, c.loop-low-test.true, c.loop-low.invariant.within);
}
