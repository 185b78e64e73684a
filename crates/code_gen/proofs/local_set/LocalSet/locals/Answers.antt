use Rattle.std.proofs.Common.{◌∙◌}
use Rattle.code_gen.specs.Marked.{has}
use Rattle.code_gen.proofs.Marking.{listed_none, listed_more}
use Rattle.code_gen.proofs.local_set.LocalSet.locals.Goals as goal

pub loop-next-init : goal.loop-next-init
loop-next-init c =
    let next = c.next_below-next.ensures in
    record { listed = (c.in_ok-make_room.ensures ∙ c.new-locals.ensures.items) ∙ listed_none (has c.args.self) c.args.end c.next_below-next.result next; until = next.until; passing = next.passing }

pub loop-next-preserved : goal.loop-next-preserved
loop-next-preserved c =
    let now = c.loop-next.invariant in
    let next = c.next_below-next-in-loop-next.ensures in
    record {
      listed = c.in_ok-push.ensures.ok ∙ listed_more (has c.args.self) c.args.end c.loop-next.next c.next_below-next-in-loop-next.result c.loop-next.locals.items now.listed (now.passing c.loop-next-test.true) next;
      until = next.until;
      passing = next.passing;
    }
