use Rattle.std.proofs.Common.{◌≡◌, drop}
use Rattle.std.specs.List.{list_all}
use Rattle.grail_check.specs.Faulting.{is_known}
use Rattle.grail_check.proofs.functions.are_known.Given as goal

abbrev pub invariant-kinds : goal.invariant-kinds
invariant-kinds l = list_all (is_known l.types) (drop l.kind-index l.kinds) ≡ list_all (is_known l.types) l.kinds
