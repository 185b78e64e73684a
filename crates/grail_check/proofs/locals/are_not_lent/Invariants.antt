use Rattle.std.proofs.Common.{◌≡◌, drop}
use Rattle.grail_check.specs.Faulting.{are_not_lent}
use Rattle.grail_check.proofs.locals.are_not_lent.Given as goal

abbrev pub invariant-named : goal.invariant-named
invariant-named l = are_not_lent l.locals (drop l.local-index l.named) ≡ are_not_lent l.locals l.named
