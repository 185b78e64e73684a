use Rattle.std.proofs.Common.{arith, map, length}
use Rattle.dual_simplex.specs.Answer.{value_of}
use Rattle.dual_simplex.specs.Lines.{plain_line}
use Rattle.dual_simplex.proofs.Scans.{made_turn, positive_turn, value_positive}
use Rattle.dual_simplex.proofs.answer.values_of.Goals as goal

pub loop-variable-preserved : goal.loop-variable-preserved
loop-variable-preserved c =
    let lines = c.args.tableau.now.lines.items in
    let value = rw c.deref.ensures.value at c.value_of.ensures in
    record {
      value = made_turn (λ v. value_of v (map plain_line lines)) 0 c.loop-variable.variable c.loop-variable.variable c.loop-variable.values.items c.push.new.self.items c.value_of.result (omega arith) c.in_ok-push.ensures.items value c.loop-variable.invariant.value;
      positive = positive_turn c.loop-variable.values.items c.push.new.self.items c.value_of.result c.in_ok-push.ensures.items
          (rw value (value_positive c.loop-variable.variable (length c.args.tableau.now.columns.items) lines c.requires.sound.lines)) c.loop-variable.invariant.positive;
    }
