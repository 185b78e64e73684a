use Rattle.annotations.proofs.Rows.{table_reached}
use Rattle.annotations.proofs.reach.ReachTable.reached.Goals as goal

pub returns : goal.returns
returns c = λ types e. table_reached types c.args.self.now c.args.kind _ c.row_of.ensures e
