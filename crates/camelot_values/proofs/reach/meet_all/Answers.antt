use Rattle.std.proofs.Common.{arith}
use Rattle.camelot_values.proofs.SearchLaws.{one_con_more}
use Rattle.camelot_values.proofs.reach.meet_all.Goals as goal

pub cons-preserved : goal.cons-preserved
cons-preserved c =
    one_con_more c.deref-con-items.result.now c.cons.con-index c.con-item.result c.cons.marks c.meet_fields.new.marks _ (omega arith) c.con-item.is c.cons.invariant c.meet_fields.ensures
