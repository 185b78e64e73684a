use Rattle.std.proofs.Common.{◌≤◌, length, subst, sym, refl, arith}
use Rattle.value_text.specs.Due.{first_due, Stops}
use Rattle.value_text.specs.Later.{later_due}
use Rattle.value_text.proofs.Following.{node_step, node_stop, node_shorter}
use Rattle.value_text.proofs.LaterSteps.{ok_still}
use Rattle.value_text.proofs.reading.follow_value.Goals as goal

pub returns-in-Err-clause-reading : goal.returns-in-Err-clause-reading
returns-in-Err-clause-reading c =
    subst (Stops c.args.types.now (first_due c.args.kinds.now) c.args.text.now) (sym c.saturating_sub.ensures)
    (node_stop c.args.types.now (first_due c.args.kinds.now) c.args.text.now c.args.items.now.items c.args.kind (later_due c.args.later.now.inner.now c.args.later.now.closed c.args.later.now.frames.items c.args.later.now.others.now)
    c.args.rest.now c.in-Err.left c.requires.named c.requires.reading c.in-Err.ensures)

pub go_on-requires-clause-reading : goal.go_on-requires-clause-reading
go_on-requires-clause-reading c =
    node_step c.args.types.now (first_due c.args.kinds.now) c.args.text.now c.args.items.now.items _ c.args.kind
    (later_due c.args.later.now.inner.now c.args.later.now.closed c.args.later.now.frames.items c.args.later.now.others.now) _ c.args.rest.now c.in-Ok.node.rest.now c.in-Ok.node.item c.in-Ok.node.fields.now
    c.requires.named c.requires.reading c.in-Ok.ensures c.in-Ok-push.ensures.items refl

pub returns-clause-shorter : goal.returns-clause-shorter
returns-clause-shorter c =
    ok_still (λ next. length next.1.now ≤ length c.in-Ok.node.rest.now) _ c.go_on.result
    (λ next h. omega (arith, h, node_shorter c.args.types.now c.args.kind c.args.rest.now c.in-Ok.node.rest.now c.in-Ok.node.item c.in-Ok.node.fields.now c.requires.named c.in-Ok.ensures)) c.go_on.ensures.shorter
