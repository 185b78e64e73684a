use Rattle.annotations.proofs.Rows.{one_row}
use Rattle.annotations.proofs.reach.rows_of.Goals as goal

pub types-preserved : goal.types-preserved
types-preserved c = one_row (λ r. r.items) c.args.types.now c.types.number c.types.rows.items c.push.new.self.items c.in_ok-row.row c.types.invariant c.in_ok-row.ensures c.in_ok-push.ensures.items
