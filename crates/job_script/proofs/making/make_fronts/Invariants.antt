use Rattle.std.proofs.Common.{◌≤◌, ◌-◌}
use Rattle.job_script.specs.Fronts.{AreFronts}
use Rattle.job_script.proofs.making.make_fronts.Given as goal

abbrev pub decreases-items : goal.decreases-items
decreases-items l = l.count - l.made

abbrev pub invariant-items : goal.invariant-items
invariant-items l = record { fronts : AreFronts l.made l.fronts.text.items l.fronts.ends.items; few : l.made ≤ l.count }
