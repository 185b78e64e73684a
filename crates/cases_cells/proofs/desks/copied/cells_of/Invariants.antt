use Rattle.std.proofs.Common.{◌≡◌, take}
use Rattle.cases_cells.proofs.desks.copied.cells_of.Given as goal

abbrev pub invariant-loop-at : goal.invariant-loop-at
invariant-loop-at l = l.cells.items ≡ take l.at l.span.cells
