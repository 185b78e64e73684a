use Rattle.std.proofs.Common.{◌≡◌, ◌-◌, length, drop}
use Rattle.camelot_names.proofs.scopes.Scope.leave.Given as goal

abbrev pub invariant-loop-self : goal.invariant-loop-self
invariant-loop-self g l = drop (length l.self - l.len) l.self ≡ drop (length l.initial.self - l.len) l.initial.self

abbrev pub decreases-loop-self : goal.decreases-loop-self
decreases-loop-self g l = length l.self
