use Rattle.std.proofs.Common.{◌≡◌, ◌-◌, ◌≤◌}
use Rattle.pause_image.specs.Judging.{bound_locals, plain_bounds, just_set}
use Rattle.pause_image.proofs.shapes.has_just.Given as goal

abbrev pub invariant-locals : goal.invariant-locals
invariant-locals l = just_set l.marks l.local (l.count - l.local) (bound_locals (plain_bounds l.rest)) ≡ just_set l.marks 0 l.count (bound_locals (plain_bounds l.live))
