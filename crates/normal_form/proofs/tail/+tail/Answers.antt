use Rattle.std.proofs.Common.{◌≡◌, ◌+◌, map, ap, ◌∙◌, subst, arith}
use Rattle.std.specs.Prelude.{IfOk}
use Rattle.std.specs.Option.{option_map}
use Rattle.camelot_tree.specs.Tree.{expression_of, branch_of, arms}
use Rattle.normal_form.specs.Normal.{cons_of}
use Rattle.normal_form.specs.Counts.{branch_tail_made, branch_tail_ends}
use Rattle.normal_form.specs.Parts.{Piece, TailPiece, piece_of, tail_of, tails_piece, parted}
use Rattle.normal_form.specs.Tables.{source_in}
use Rattle.normal_form.proofs.Naming.{ordered_smaller}
use Rattle.normal_form.proofs.Rooms.{on_ok, next_over, arm_left}
use Rattle.normal_form.proofs.TailParts.{tail_match_whole, over_tail_made, over_tail_ends}
use Rattle.normal_form.proofs.tail.+tail.Goals as goal

pub tail_arm-returns-clause-scope : goal.tail_arm-returns-clause-scope
tail_arm-returns-clause-scope t c =
    on_ok c.and_body.result (c.leave.new.self ≡ c.args.scope.now)
    (arm_left (branch_of c.in-Some.arm.now) c.args.arms.end.next c.args.scope.now c.len-len.result c.bind_arm.new.scope c.tail.new.scope c.leave.new.self c.len-len.ensures c.in_ok-bind_arm.ensures c.in_ok-body.ensures.scope c.leave.ensures)

pub tail_arms-tail_arm-requires : goal.tail_arms-tail_arm-requires
tail_arms-tail_arm-requires t c =
    let p = source_in c.args.known.now.typed.now in
    let as' = arms (map branch_of c.args.arms.now) in
    let f = option_map (λ a. branch_of a.now) in
    let order = ap (map f) c.deref-arm-items.ensures.value ∙ c.in_ok-order.ensures in
    let less = ordered_smaller f p as' c.deref-arm-items.result.now (cons_of p as') c.arms.arm-index c.arm-item.result order c.arms-test.true c.arm-item.is in
    let made = over_tail_made p as' (map f c.deref-arm-items.result.now) order in
    let ended = over_tail_ends p as' (map f c.deref-arm-items.result.now) order in
    let own = next_over (branch_tail_made p) f c.deref-arm-items.result.now c.arms.arm-index c.arm-item.result c.arms-test.true c.arm-item.is in
    let own_ended = next_over (branch_tail_ends p) f c.deref-arm-items.result.now c.arms.arm-index c.arm-item.result c.arms-test.true c.arm-item.is in
    (omega (arith, less, c.decreases), (omega (arith, own, made, c.arms.invariant.locals, c.requires.locals), omega (arith, own_ended, ended, c.arms.invariant.ended, c.requires.ended)))

pub tail_match-returns-clause-tail : goal.tail_match-returns-clause-tail
tail_match-returns-clause-tail t c =
    let p = source_in c.args.known.now.typed.now in
    let as' = arms (map branch_of c.args.arms.now) in
    let e = expression_of c.args.on.now in
    let on = c.in_ok-on.on in
    subst (λ (q : TailPiece). IfOk c.parted.result (λ last. tail_of last ≡ q))
    (ap (parted (piece_of on)) (c.in_ok-arms.ensures.arms ∙ ap (λ s. tails_piece p s on.end.next (on.end.number + 1) as') c.in_ok-on.ensures.scope)
    ∙ ap (λ (q : Piece). parted q (tails_piece p c.args.scope.now q.next (q.number + 1) as')) c.in_ok-on.ensures.part
    ∙ tail_match_whole p c.args.scope.now c.args.at.next c.args.at.number 0 e as') c.parted.ensures
