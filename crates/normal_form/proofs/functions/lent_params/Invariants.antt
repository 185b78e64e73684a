use Rattle.std.proofs.Common.{◌≡◌, ◌++◌}
use Rattle.linear_use.specs.Uses.{lent_params}
use Rattle.normal_form.proofs.functions.lent_params.Given as goal

abbrev pub invariant-params : goal.invariant-params
invariant-params l = l.marks.items ++ lent_params l.types l.param-iterator.a.rest.now l.param-iterator.b.rest.now ≡ lent_params l.types l.params l.kinds
