use Rattle.std.proofs.Common.{◌≡◌, drop}
use Rattle.std.specs.List.{list_all}
use Rattle.grail_check.specs.Faulting.{is_local}
use Rattle.grail_check.proofs.lets.are_locals.Given as goal

abbrev pub invariant-named : goal.invariant-named
invariant-named l = list_all (is_local l.locals) (drop l.local-index l.named) ≡ list_all (is_local l.locals) l.named
