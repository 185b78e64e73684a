use Rattle.std.proofs.Common.{sym, ◌∙◌}
use Rattle.camelot_values.proofs.ReachSteps.{passes_test}
use Rattle.camelot_values.proofs.kinds.Types.passes.Goals as goal

pub returns-then-is_heap : goal.returns-then-is_heap
returns-then-is_heap c = passes_test c.args.self.now c.args.first c.args.number c.is_led_to.result (sym c.is_heap.ensures ∙ c.if-is_heap.true) (rw c.defs.ensures at c.is_led_to.ensures)
