use Rattle.std.proofs.Common.{arith, length}
use Rattle.dual_simplex.specs.Answer.{price_of}
use Rattle.dual_simplex.proofs.Scans.{made_turn, positive_turn, price_positive}
use Rattle.dual_simplex.proofs.answer.prices_of.Goals as goal

pub loop-row-preserved : goal.loop-row-preserved
loop-row-preserved c =
    let t = c.args.tableau.now in
    let price = rw c.deref.ensures.value at c.price_of.ensures in
    record {
      value = made_turn (λ v. price_of v t.cost.divisor t.columns.items t.cost.factors.items) (length t.columns.items) c.loop-row.row _ c.loop-row.prices.items c.push.new.self.items c.price_of.result (omega arith) c.in_ok-push.ensures.items price c.loop-row.invariant.value;
      positive = positive_turn c.loop-row.prices.items c.push.new.self.items c.price_of.result c.in_ok-push.ensures.items
          (rw price (price_positive _ t.cost.divisor t.columns.items t.cost.factors.items c.requires.sound.cost.positive)) c.loop-row.invariant.positive;
    }
