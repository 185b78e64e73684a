use Rattle.annotations.proofs.Rows.{owner_says}
use Rattle.annotations.proofs.reach.ReachTable.type_of.Goals as goal

pub returns : goal.returns
returns c = λ types e. owner_says types c.args.self.now c.args.con c.owner.result c.owner.ensures e
