use Rattle.std.proofs.Common.{◌≡◌, ◌+◌, ◌++◌, drop, map}
use Rattle.camelot_values.specs.Kinds as values
use Rattle.camelot_typing.specs.Kinds.{numbered}
use Rattle.camelot_types.proofs.compile.numbered.Given as goal

abbrev pub invariant-cons : goal.invariant-cons
invariant-cons l = record {
  numbers : l.numbers.items ++ numbered l.next (map values.constructor_of (drop l._con-index l.cons)) ≡ numbered l.initial.next (map values.constructor_of l.cons);
  next : l.next ≡ l.initial.next + l._con-index;
}
