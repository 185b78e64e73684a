use Rattle.std.proofs.Common.{rules, ap, arith, ◌-◌, length}
use Rattle.cell_machine.proofs.LaidLaws.{free_turn, free_next, set_size}
use Rattle.cell_machine.proofs.loading.free_cells.Goals as goal

pub cells-preserved : goal.cells-preserved
cells-preserved c = let cells = ap (λ r. r.cells) c.set.ensures in record {
  from = omega (arith, c.cells-test.true);
  inside = search rules;
  free = free_turn c.cells.span.cells c.set.new.self.cells c.cells.at c.cells.next (omega (arith, c.cells-test.true)) c.cells.invariant.inside cells c.cells.invariant.next c.cells.invariant.free;
  next = free_next c.cells.at (length c.set.new.self.cells) (omega (arith, c.cells-test.true)) (omega (arith, c.cells.invariant.inside, set_size c.cells.span.cells c.set.new.self.cells (c.cells.at - 1) _ cells));
  range = search rules;
}
