use Rattle.std.proofs.Common.{◌≡◌, ◌-◌, ◌++◌}
use Rattle.cell_machine.specs.Homes.{row}
use Rattle.cell_machine.proofs.homes.add.Given as goal

abbrev pub invariant-places : goal.invariant-places
invariant-places l = l.homes.items ++ row l.number l.place (l.count - l.place) ≡ l.initial.homes.items ++ row l.number 0 l.count
