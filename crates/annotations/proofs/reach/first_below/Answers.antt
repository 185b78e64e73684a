use Rattle.annotations.proofs.Walks.{table_answer, table_none}
use Rattle.annotations.proofs.reach.first_below.Goals as goal

pub returns-clause-answer : goal.returns-clause-answer
returns-clause-answer c = λ types e. table_answer types c.args.table.now c.args.kind c.args.left.now c.args.right.now c.first_fewer.result c.limits.ensures c.limits-2.ensures c.first_fewer.ensures e

pub returns-clause-none : goal.returns-clause-none
returns-clause-none c = λ types e. table_none types c.args.table.now c.args.kind c.args.left.now c.args.right.now c.first_fewer.result c.limits.ensures c.limits-2.ensures c.first_fewer.ensures e
