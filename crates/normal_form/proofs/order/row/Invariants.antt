use Rattle.std.proofs.Common.{◌≡◌, ◌+◌, ◌++◌, drop}
use Rattle.camelot_typing.specs.Kinds.{numbered}
use Rattle.normal_form.proofs.order.row.Given as goal

abbrev pub invariant-cons : goal.invariant-cons
invariant-cons l = record {
  done : l.numbers.items ++ numbered l.number (drop l._con-index l.cons) ≡ numbered l.first l.cons;
  number : l.number ≡ l.first + l._con-index;
}
