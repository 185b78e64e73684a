use Rattle.annotations.proofs.Rows.{exactly}
use Rattle.annotations.proofs.reach.ReachTable.reaches.Goals as goal

pub returns : goal.returns
returns c = λ types e. exactly types c.args.self.now c.args.kind c.args.con c.is_in.result c.is_in.ensures e
