use Rattle.camelot_types.specs.Solving.{fresh}
use Rattle.camelot_types.proofs.Looping.{fresh_more}
use Rattle.camelot_types.proofs.settle.fresh.Goals as goal

pub numbers-preserved : goal.numbers-preserved
numbers-preserved c = fresh_more c.numbers.table.items c.push.new.self.items (fresh 0 c.args.count) c.numbers.number c.args.count c.numbers-test.true c.numbers.invariant c.in_ok-push.ensures.items
