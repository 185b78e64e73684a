use Rattle.annotations.proofs.Rows.{each_exactly}
use Rattle.annotations.proofs.reach.ReachTable.reaches_each.Goals as goal

pub returns : goal.returns
returns c = λ types e. each_exactly types c.args.self.now c.args.kind c.args.vector.now c.are_in.result c.are_in.ensures e
