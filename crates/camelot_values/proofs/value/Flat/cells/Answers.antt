use Rattle.camelot_values.proofs.CountSteps.{cells_read}
use Rattle.camelot_values.proofs.value.Flat.cells.Goals as goal

pub returns : goal.returns
returns c = cells_read c.args.types.now c.items.total c.items.item-index c.items-item-items.result.now c.args.self.now c.items-item-items.ensures c.items-test.false c.items.invariant.sum
