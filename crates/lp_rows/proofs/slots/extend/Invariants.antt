use Rattle.std.proofs.Common.{◌≡◌, ◌+◌, ◌-◌, length}
use Rattle.lp_rows.specs.Plain.{names}
use Rattle.lp_rows.proofs.slots.extend.Given as goal

abbrev pub invariant-slots : goal.invariant-slots
invariant-slots l = names l.site.func l.site.block l.slots.items ≡ names l.site.func l.site.block l.initial.slots.items

abbrev pub decreases-slots : goal.decreases-slots
decreases-slots l = l.local + 1 - length l.slots.items
