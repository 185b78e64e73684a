use Rattle.std.proofs.Common.{◌≡◌, ◌≤◌, drop, length}
use Rattle.camelot_typing.specs.Kinds.{numbered}
use Rattle.camelot_typing.specs.Typing.{params_scope}
use Rattle.normal_form.proofs.functions.bind_locals.Given as goal

abbrev pub invariant-loop-number : goal.invariant-loop-number
invariant-loop-number l = record {
  scope : l.scope ≡ params_scope (drop l.number l.params) (numbered l.number (drop l.number l.params));
  params : l.number ≤ length l.params;
}

abbrev pub decreases-loop-number : goal.decreases-loop-number
decreases-loop-number l = l.number
