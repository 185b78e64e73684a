use Rattle.std.proofs.Common.{sym, ap, ◌∙◌, subst, map, List, arith}
use Rattle.cell_span.specs.Range.{Range}
use Rattle.hole_list.specs.declared.run.Run.{Run}
use Rattle.hole_list.specs.Placing.{IsOut, total}
use Rattle.hole_list.specs.Holes.{Holed, run_of}
use Rattle.hole_list.specs.Inside.{holed_of}
use Rattle.hole_list.specs.Places.{AreOf}
use Rattle.hole_list.specs.KeptLaws.{apart_ordered, free_of_out}
use Rattle.hole_list.proofs.Holding.{given_total, given_few, given_room, give_holds}
use Rattle.hole_list.proofs.holes.Holes.give.Goals as goal

pub merge-requires-clause-order : goal.merge-requires-clause-order
merge-requires-clause-order c = apart_ordered (map run_of c.self.inside.spans.items) c.self.invariant.holes.apart

pub merge-requires-clause-free : goal.merge-requires-clause-free
merge-requires-clause-free c = free_of_out (holed_of c.self.inside) c.args.span c.self.invariant.holes c.run_at-run.ensures.range (subst (λ (s : Holed). IsOut s.out (run_of c.args.span)) (sym c.self.view_is) c.requires.out)

pub merge-requires-clause-arena : goal.merge-requires-clause-arena
merge-requires-clause-arena c = subst (λ a. AreOf a c.self.inside.spans.items) (sym (c.requires.arena ∙ ap (λ (s : Holed). s.arena) (sym c.self.view_is))) c.self.invariant.holes.of_arena

pub merge-requires-clause-room : goal.merge-requires-clause-room
merge-requires-clause-room c = given_room (holed_of c.self.inside) c.args.span _ c.self.invariant.holes c.run_at-run.ensures.range (c.requires.arena ∙ ap (λ (s : Holed). s.arena) (sym c.self.view_is)) (subst (λ (s : Holed). IsOut s.out (run_of c.args.span)) (sym c.self.view_is) c.requires.out) c.self.invariant.hole_room

pub overflow_add-self : goal.overflow_add-self
overflow_add-self c =
    let few = given_few (holed_of c.self.inside) c.args.span c.self.invariant.holes c.run_at-run.ensures.range (c.requires.arena ∙ ap (λ (s : Holed). s.arena) (sym c.self.view_is)) (subst (λ (s : Holed). IsOut s.out (run_of c.args.span)) (sym c.self.view_is) c.requires.out) in
    omega (arith, c.self.invariant.free, few, ap (λ (r : Run). r.size) c.run_at-run.ensures.run)

pub invariant_of-self : goal.invariant_of-self
invariant_of-self c = record {
  holes = give_holds (holed_of c.self.inside) c.args.span c.run_at-run.result c.merge.new.spans.items c.remove_run.new.runs.items c.self.invariant.holes c.run_at-run.ensures.range (c.requires.arena ∙ ap (λ (s : Holed). s.arena) (sym c.self.view_is)) (subst (λ (s : Holed). IsOut s.out (run_of c.args.span)) (sym c.self.view_is) c.requires.out)
      c.merge.ensures.given c.run_at-run.ensures.run c.remove_run.ensures.out;
  free = omega (arith, c.self.invariant.free, ap (λ (l : List Range). total (map run_of l)) c.merge.ensures.given, given_total c.self.inside.spans.items c.args.span, ap (λ (r : Run). r.size) c.run_at-run.ensures.run);
  hole_room = omega (arith, c.self.invariant.hole_room, c.merge.ensures.room);
  run_room = omega (arith, c.self.invariant.run_room, c.remove_run.ensures.room);
}
