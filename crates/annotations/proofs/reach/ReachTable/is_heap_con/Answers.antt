use Rattle.annotations.proofs.Rows.{con_says}
use Rattle.annotations.proofs.reach.ReachTable.is_heap_con.Goals as goal

pub returns : goal.returns
returns c = λ types e. con_says types c.args.self.now c.args.con c.is_heap_con_in.result c.is_heap_con_in.ensures e
