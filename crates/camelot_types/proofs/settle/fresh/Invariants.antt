use Rattle.std.proofs.Common.{◌≡◌, ◌++◌, ◌-◌}
use Rattle.camelot_types.specs.Solving.{fresh}
use Rattle.camelot_types.proofs.settle.fresh.Given as goal

abbrev pub invariant-numbers : goal.invariant-numbers
invariant-numbers l = l.table.items ++ fresh l.number (l.count - l.number) ≡ fresh 0 l.count
