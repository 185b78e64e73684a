use Rattle.std.proofs.Common.{arith}
use Rattle.job_script.proofs.Fronts.{front_more}
use Rattle.job_script.proofs.making.make_fronts.Goals as goal

pub items-preserved : goal.items-preserved
items-preserved c = record {
  fronts =
      front_more c.items.made c.items.fronts.text.items c.items.fronts.ends.items c.add_front.new.fronts.text.items c.add_front.new.fronts.ends.items c.items.invariant.fronts
      c.in_ok-add_front.ensures.text c.in_ok-add_front.ensures.ends;
  few = omega (arith, c.items-test.true);
}
