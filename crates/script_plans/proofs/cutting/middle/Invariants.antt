use Rattle.std.proofs.Common.{◌≡◌}
use Rattle.script_plans.proofs.cutting.middle.Given as goal

abbrev pub invariant-entries : goal.invariant-entries
invariant-entries l = l.place ≡ l.entry-index
