use Rattle.std.proofs.Common.{◌<◌, length, sym, subst, arith}
use Rattle.hole_list.specs.Holes.{Holed, taken_cells}
use Rattle.hole_list.specs.Inside.{holed_of}
use Rattle.hole_list.proofs.Holding.{out_free, taken_total, take_holds}
use Rattle.hole_list.proofs.holes.Holes.take.Goals as goal

pub add_run-requires-clause-free : goal.add_run-requires-clause-free
add_run-requires-clause-free c = out_free (holed_of c.self.inside) c.args.size (taken_cells c.in-Some.span c.take_first.new.spans.items) c.run_at-run.result c.self.invariant.holes c.requires.some c.in-Some.ensures.some c.run_at-run.ensures.run

pub overflow_sub-self : goal.overflow_sub-self
overflow_sub-self c = omega (arith, c.self.invariant.free, taken_total c.self.inside.spans.items c.args.size (taken_cells c.in-Some.span c.take_first.new.spans.items) c.in-Some.ensures.some)

pub invariant_of-self : goal.invariant_of-self
invariant_of-self c = record {
  holes = take_holds (holed_of c.self.inside) c.args.size (taken_cells c.in-Some.span c.take_first.new.spans.items) c.run_at-run.result c.add_run.new.runs.items c.self.invariant.holes c.requires.some
      (subst (λ (s : Holed). length s.out < s.most_out) (sym c.self.view_is) c.requires.few) c.in-Some.ensures.some c.run_at-run.ensures.run c.add_run.ensures.out;
  free = omega (arith, c.self.invariant.free, taken_total c.self.inside.spans.items c.args.size (taken_cells c.in-Some.span c.take_first.new.spans.items) c.in-Some.ensures.some);
  hole_room = omega (arith, c.self.invariant.hole_room, c.take_first.ensures.room);
  run_room = omega (arith, c.self.invariant.run_room, c.add_run.ensures.room);
}
