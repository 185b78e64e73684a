use Rattle.annotations.proofs.Walks.{is_wanted}
use Rattle.annotations.proofs.compare.is_below.Goals as goal

pub returns-then-have-need : goal.returns-then-have-need
returns-then-have-need c = is_wanted c.args.types.now c.args.kind c.args.con c.args.have c.args.need c.reaches.result c.if-have-need.true c.reaches.ensures
