use Rattle.std.proofs.Common.{◌≡◌}
use Rattle.linear_use.specs.Uses.{lent_params, some_lent}
use Rattle.linear_use.proofs.marks.some_lent.Given as goal

abbrev pub invariant-params : goal.invariant-params
invariant-params l = some_lent (lent_params l.types l.param-iterator.a.rest.now l.param-iterator.b.rest.now) ≡ some_lent (lent_params l.types l.params l.kinds)
