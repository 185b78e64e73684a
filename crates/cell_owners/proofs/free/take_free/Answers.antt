use Rattle.std.proofs.Common.{sym}
use Rattle.cell_owners.proofs.FreeWalk.{counts, none_at_none, none_at_marked}
use Rattle.cell_owners.proofs.free.take_free.Goals as goal

pub overflow_add-count : goal.overflow_add-count
overflow_add-count c = counts c.args.cells.now c.args.head c.args.marks.now c.cells.count c.cells.at c.cells.marks c.cells.invariant c.requires.many c.requires.few

pub returns-in-None-clause-none : goal.returns-in-None-clause-none
returns-in-None-clause-none c =
    none_at_none c.args.cells.now c.args.head c.args.marks.now c.cells.count c.cells.at c.cells.marks c.cells.invariant c.cells-test.true c.requires.few (sym c.in-None.ensures)

pub returns-then-is_marked-clause-none : goal.returns-then-is_marked-clause-none
returns-then-is_marked-clause-none c =
    none_at_marked c.args.cells.now c.args.head c.args.marks.now c.cells.count c.cells.at c.cells.marks c.cells.invariant c.cells-test.true c.requires.few (sym c.if-is_marked.ensures)
