use Rattle.std.proofs.Common.{◌≡◌, ◌≤◌, drop, length}
use Rattle.camelot_typing.specs.Typing.{params_scope}
use Rattle.normal_form.proofs.functions.bind_kinds.Given as goal

abbrev pub invariant-loop-number : goal.invariant-loop-number
invariant-loop-number l = record {
  scope : l.scope ≡ params_scope (drop l.number l.params) (drop l.number l.kinds);
  params : l.number ≤ length l.params;
  kinds : l.number ≤ length l.kinds;
}

abbrev pub decreases-loop-number : goal.decreases-loop-number
decreases-loop-number l = l.number
