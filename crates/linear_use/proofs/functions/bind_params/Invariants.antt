use Rattle.std.proofs.Common.{◌≡◌, ◌≤◌, drop, length}
use Rattle.linear_use.specs.Uses.{lent_params}
use Rattle.linear_use.specs.Flow.{param_variables}
use Rattle.linear_use.proofs.functions.bind_params.Given as goal

abbrev pub invariant-loop-number : goal.invariant-loop-number
invariant-loop-number l = record {
  scope : l.scope ≡ param_variables l.number (drop l.number l.params) (drop l.number l.kinds) (lent_params l.types (drop l.number l.params) (drop l.number l.kinds));
  params : l.number ≤ length l.params;
  kinds : l.number ≤ length l.kinds;
}

abbrev pub decreases-loop-number : goal.decreases-loop-number
decreases-loop-number l = l.number
