use Rattle.cell_owners.specs.Marks.{open_in}
use Rattle.cell_owners.proofs.FreeWalk.{Midway}
use Rattle.cell_owners.proofs.free.take_free.Given as goal

abbrev pub invariant-cells : goal.invariant-cells
invariant-cells l = Midway l.cells l.head l.initial.marks l.count l.at l.marks

abbrev pub decreases-cells : goal.decreases-cells
decreases-cells l = open_in l.marks
