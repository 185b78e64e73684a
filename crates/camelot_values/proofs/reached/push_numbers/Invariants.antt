use Rattle.std.proofs.Common.{◌≡◌, ◌++◌, ◌-◌}
use Rattle.std.specs.List.{range_with_len}
use Rattle.camelot_values.proofs.reached.push_numbers.Given as goal

abbrev pub invariant-loop-number : goal.invariant-loop-number
invariant-loop-number l = l.found.items ++ range_with_len l.number (l.number-end - l.number) ≡ l.initial.found.items ++ range_with_len l.first l.count
