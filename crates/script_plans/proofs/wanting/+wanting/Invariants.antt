use Prim.Native.Nat.{◌+◌, ◌*◌, ◌-◌}
use Rattle.script_plans.proofs.wanting.+wanting.Given as goal

abbrev pub decreases-want_jobs : goal.decreases-want_jobs
decreases-want_jobs g l = 4 * l.parts

abbrev pub decreases-want_both : goal.decreases-want_both
decreases-want_both g l = 4 * (l.low + l.high) - 1

abbrev pub decreases-want_both-one : goal.decreases-want_both-one
decreases-want_both-one g l = 4 * l.low + 1

abbrev pub decreases-want_both-other : goal.decreases-want_both-other
decreases-want_both-other g l = 4 * l.high + 1
