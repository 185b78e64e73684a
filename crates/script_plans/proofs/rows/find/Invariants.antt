use Rattle.std.proofs.Common.{◌≡◌, length, map}
use Rattle.script_plans.specs.Rows.{row_of, row_among}
use Rattle.script_plans.proofs.rows.find.Given as goal

abbrev pub invariant-rows : goal.invariant-rows
invariant-rows l = row_among (map row_of l.rest) l.name ≡ row_among (map row_of l.rows) l.name

abbrev pub decreases-rows : goal.decreases-rows
decreases-rows l = length l.rest
