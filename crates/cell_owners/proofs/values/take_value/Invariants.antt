use Rattle.std.proofs.Common.{◌≡◌, ◌≤◌, ◌+◌, ◌*◌, length}
use Rattle.cell_owners.specs.Marks.{open_in}
use Rattle.cell_owners.specs.Values.{vector_of}
use Rattle.cell_owners.proofs.Ways.{Way}
use Rattle.cell_owners.proofs.values.take_value.Given as goal

abbrev pub invariant-cells : goal.invariant-cells
invariant-cells l =
    record {
      way : Way l.types l.cells (vector_of l.vector) l.fn.kind l.word l.fn.marks l.marks l.due.items l.total;
      size : length l.marks ≡ length l.fn.marks;
      few : l.total + 92233720368547758080 * open_in l.marks ≤ 92233720368547758080 + 92233720368547758080 * open_in l.fn.marks;
    }

abbrev pub decreases-cells : goal.decreases-cells
decreases-cells l = open_in l.marks
