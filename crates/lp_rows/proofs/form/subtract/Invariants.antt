use Rattle.std.proofs.Common.{◌≡◌, ◌++◌, length, take, drop, map}
use Rattle.lp_rows.specs.Dense.{differences, ticks}
use Rattle.lp_rows.specs.Plain.{plain}
use Rattle.lp_rows.proofs.form.subtract.Given as goal

abbrev pub invariant-factors : goal.invariant-factors
invariant-factors l = take l.place l.factors ++ differences (drop l.place l.factors) (ticks (map plain l.rest) (plain l.unknown)) ≡ differences l.initial.factors (ticks (map plain l.unknowns) (plain l.unknown))

abbrev pub decreases-factors : goal.decreases-factors
decreases-factors l = length l.rest
