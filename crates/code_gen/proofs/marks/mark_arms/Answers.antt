use Rattle.std.proofs.Common.{arith}
use Rattle.code_gen.proofs.Marking.{arms_more}
use Rattle.code_gen.proofs.marks.mark_arms.Goals as goal

pub loop-left-preserved : goal.loop-left-preserved
loop-left-preserved c =
    let now = c.loop-left.invariant in
    let within = now.within in
    record {
      within = omega (arith, within);
      marked = λ live m.
          arms_more c.mark_arm.new.marks c.args.later.now c.args.count c.loop-left.left c.args.arms.now c.index-arms-left.result c.marks_of.result live c.loop-left-test.true within c.index-arms-left.is c.marks_of.ensures
          (c.mark_arm.ensures _ (now.marked live m));
    }
