use Rattle.std.proofs.Common.{◌≡◌, ◌++◌, length, take, drop, map}
use Rattle.lp_rows.specs.Dense.{sums, ticks}
use Rattle.lp_rows.specs.Plain.{plain}
use Rattle.lp_rows.proofs.form.add.Given as goal

abbrev pub invariant-factors : goal.invariant-factors
invariant-factors l = take l.place l.factors ++ sums (drop l.place l.factors) (ticks (map plain l.rest) (plain l.unknown)) ≡ sums l.initial.factors (ticks (map plain l.unknowns) (plain l.unknown))

abbrev pub decreases-factors : goal.decreases-factors
decreases-factors l = length l.rest
