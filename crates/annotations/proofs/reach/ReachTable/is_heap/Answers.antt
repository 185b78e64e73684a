use Rattle.annotations.proofs.Rows.{heap_says}
use Rattle.annotations.proofs.reach.ReachTable.is_heap.Goals as goal

pub returns : goal.returns
returns c = λ types e. heap_says types c.args.self.now c.args.kind c.is_heap_in.result c.is_heap_in.ensures e
