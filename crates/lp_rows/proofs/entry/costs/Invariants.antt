use Rattle.std.proofs.Common.{◌≡◌, ◌++◌, drop, map}
use Rattle.lp_system.specs.Forms.{cost_of}
use Rattle.lp_rows.specs.Plain.{plain}
use Rattle.lp_rows.proofs.entry.costs.Given as goal

abbrev pub invariant-unknowns : goal.invariant-unknowns
invariant-unknowns l = l.costs.items ++ map cost_of (map plain (drop l.unknown-index l.unknowns)) ≡ map cost_of (map plain l.unknowns)
