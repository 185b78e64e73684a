use Rattle.std.proofs.Common.{arith}
use Rattle.cell_span.specs.Arenas.{arena_of}
use Rattle.hole_list.proofs.Holding.{new_holds, new_free}
use Rattle.hole_list.proofs.holes.Holes.new.Goals as goal

pub invariant_of-result : goal.invariant_of-result
invariant_of-result c = record {
  holes = new_holds c.args.span c.args.most_out (arena_of c.arena-arena.result) c.run_at-base.result c.in-Ok-with_capacity.spans.items c.push_reserved.new.self.items c.in-Ok.runs.items c.in-Ok-with_capacity.ensures.items c.push_reserved.ensures.items
      c.in-Ok.ensures.items c.arena-arena.ensures.arena c.run_at-base.ensures.run c.run_at-base.ensures.range;
  free = new_free c.args.span c.run_at-base.result c.in-Ok-with_capacity.spans.items c.push_reserved.new.self.items c.in-Ok-with_capacity.ensures.items c.push_reserved.ensures.items c.run_at-base.ensures.run;
  hole_room = omega (arith, c.in-Ok-with_capacity.ensures.capacity, c.push_reserved.ensures.capacity);
  run_room = c.in-Ok.ensures.capacity;
}
