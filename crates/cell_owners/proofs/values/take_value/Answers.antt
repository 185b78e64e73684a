use Rattle.std.proofs.Common.{refl, sym, ap, length, ◌∙◌, arith}
use Rattle.std.proofs.lemmas.List.{nil_from_length}
use Rattle.cell_owners.specs.Values.{vector_of}
use Rattle.cell_owners.specs.Marks.{open_in}
use Rattle.cell_owners.proofs.Marking.{as_many, smaller}
use Rattle.cell_owners.proofs.Ways.{begins, few_first, turn, few_more, no_overflow, in_range, turn_marked, turn_fails, ends}
use Rattle.cell_owners.proofs.values.take_value.Goals as goal

pub cells-init : goal.cells-init
cells-init c = record {
  way = begins c.args.types.now c.args.cells.now (vector_of c.args.vector) c.limits.ensures.each c.requires.few c.args.kind c.args.word c.args.marks.now
      c.clear.new.self.items c.put_all.new.due.items c.in_ok-first.first c.in-Some.units c.clear.ensures.items c.in_ok-first.ensures.put c.in-Some.is;
  size = refl;
  few = few_first c.in_ok-first.first c.in-Some.units (open_in c.args.marks.now) c.in_ok-first.ensures.range c.in-Some.is;
}

pub returns-then-is_marked-clause-answer : goal.returns-then-is_marked-clause-answer
returns-then-is_marked-clause-answer c = turn_marked c.args.types.now c.args.cells.now (vector_of c.args.vector) c.args.kind c.args.word c.args.marks.now c.cells.marks
    c.cells.due.items c.pop.new.self.items c.in-Some-pop.next c.at-at.result c.cells.total c.cells.invariant.way c.in-Some-pop.ensures.items c.at-at.ensures (sym c.if-is_marked.ensures)

pub overflow_add-total : goal.overflow_add-total
overflow_add-total c = no_overflow c.args.marks.now c.cells.marks _ c.cells.total c.in-Some-answer.units c.in_ok-answer.answer c.cells.invariant.few c.requires.many c.requires.few c.in_ok-answer.ensures.range c.in-Some-answer.is

pub cells-smaller : goal.cells-smaller
cells-smaller c = smaller c.cells.marks c.mark.new.self c.at-at.result (sym c.if-is_marked.ensures) c.mark.ensures

pub cells-preserved : goal.cells-preserved
cells-preserved c = record {
  way = turn c.args.types.now c.args.cells.now (vector_of c.args.vector) c.limits.ensures.each c.requires.few c.args.kind c.args.word c.args.marks.now c.cells.marks c.mark.new.self
      c.cells.due.items c.pop.new.self.items c.open_cell.new.due.items c.in-Some-pop.next c.at-at.result c.cells.total c.in-Some-answer.units c.in_ok-answer.answer
      c.cells.invariant.way c.in-Some-pop.ensures.items c.at-at.ensures (sym c.if-is_marked.ensures) c.cells.invariant.size c.requires.many c.mark.ensures c.in_ok-answer.ensures.put c.in-Some-answer.is;
  size = ap length c.mark.ensures ∙ as_many c.cells.marks c.at-at.result ∙ c.cells.invariant.size;
  few = few_more c.cells.marks c.mark.new.self c.at-at.result c.cells.total c.in-Some-answer.units _ c.in_ok-answer.answer c.cells.invariant.few (sym c.if-is_marked.ensures) c.mark.ensures c.in_ok-answer.ensures.range c.in-Some-answer.is;
}

pub returns-in-None-answer-clause-answer : goal.returns-in-None-answer-clause-answer
returns-in-None-answer-clause-answer c = turn_fails c.args.types.now c.args.cells.now (vector_of c.args.vector) c.limits.ensures.each c.requires.few c.args.kind c.args.word c.args.marks.now c.cells.marks
    c.cells.due.items c.pop.new.self.items c.open_cell.new.due.items c.in-Some-pop.next c.cells.total c.in_ok-answer.answer
    c.cells.invariant.way c.in-Some-pop.ensures.items c.in_ok-answer.ensures.put c.in-None-answer.is

pub returns-clause-answer : goal.returns-clause-answer
returns-clause-answer c = ends c.args.types.now c.args.cells.now (vector_of c.args.vector) c.args.kind c.args.word c.args.marks.now c.cells.marks c.cells.due.items c.cells.total
    c.cells.invariant.way (nil_from_length c.cells.due.items (omega (arith, c.cells.due.ok.0, c.in_default.ensures.cases.0)))

pub returns-clause-range : goal.returns-clause-range
returns-clause-range c = in_range c.args.marks.now c.cells.marks _ c.cells.total c.cells.invariant.few c.requires.many c.requires.few
