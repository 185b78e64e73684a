use Rattle.std.proofs.Common.{◌≡◌, ◌++◌, drop, map}
use Rattle.lp_rows.specs.Dense.{ticks}
use Rattle.lp_rows.specs.Plain.{plain}
use Rattle.lp_rows.proofs.form.Form.once.Given as goal

abbrev pub invariant-unknowns : goal.invariant-unknowns
invariant-unknowns l = l.factors.items ++ ticks (map plain (drop l.other-index l.unknowns)) (plain l.unknown) ≡ ticks (map plain l.unknowns) (plain l.unknown)
