use Rattle.annotations.specs.Vectors.{at}
use Rattle.annotations.proofs.Nodes.{all_read}
use Rattle.annotations.proofs.carried.potential.Goals as goal

pub returns : goal.returns
returns c = all_read c.args.types.now (at c.args.vector.now) c.items.total c.items.item-index c.items-item-items.result.now c.args.value.now c.items-item-items.ensures c.items-test.false c.items.invariant.sum
