use Rattle.std.proofs.Common.{map}
use Rattle.annotations.proofs.Rows.{rows_ascend}
use Rattle.annotations.proofs.reach.ReachTable.new.Goals as goal

pub invariant_of-result : goal.invariant_of-result
invariant_of-result c = rows_ascend c.args.types.now (map (λ r. r.items) c.in_ok-rows.rows.items) c.in_ok-rows.ensures
