use Rattle.cell_machine.proofs.SavingLaws.{cell_more}
use Rattle.cell_machine.proofs.saving.cells_kept.Goals as goal

pub each-preserved : goal.each-preserved
each-preserved c = cell_more c.args.span.now.cells c.each.cells.items c.push.new.self.items c.each.at c.get.result c.get.ensures c.in_ok-push.ensures.items c.each.invariant
