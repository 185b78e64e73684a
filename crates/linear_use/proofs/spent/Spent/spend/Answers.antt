use Rattle.std.proofs.Common.{◌∙◌, arith}
use Rattle.linear_use.proofs.Counts.{counted_room_at}
use Rattle.linear_use.proofs.spent.Spent.spend.Goals as goal

pub overflow_add-index_mut : goal.overflow_add-index_mut
overflow_add-index_mut c =
    let room = counted_room_at c.self.inside.counts.items c.grow.new.counts.items c.self.inside.log.items c.push.new.self.items c.args.number c.index_mut.result.now c.len-uses.result c.self.invariant c.grow.ensures.same c.in_ok-push.ensures.items c.in_ok-grow.ensures.within c.index_mut.ensures.value (c.len-uses.ensures ∙ c.push.new.self.ok.0) in
    let small = c.len-uses.type_inv in
    omega (arith, room, small)
