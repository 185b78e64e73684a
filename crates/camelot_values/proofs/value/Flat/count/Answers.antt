use Rattle.camelot_values.proofs.CountSteps.{count_read}
use Rattle.camelot_values.proofs.value.Flat.count.Goals as goal

pub returns : goal.returns
returns c = count_read c.args.con c.items.total c.items.item-index c.items-item-items.result.now c.args.self.now c.items-item-items.ensures c.items-test.false c.items.invariant.sum
