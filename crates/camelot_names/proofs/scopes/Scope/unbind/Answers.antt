use Rattle.std.proofs.Common.{rules}
use Rattle.camelot_names.proofs.ScopeLaws.{kept_unbind, means_something}
use Rattle.camelot_names.proofs.scopes.Scope.unbind.Goals as goal

pub restore-requires : goal.restore-requires
restore-requires g c = search (rules, means_something)

pub invariant_of-self : goal.invariant_of-self
invariant_of-self g c = search (rules, kept_unbind)
