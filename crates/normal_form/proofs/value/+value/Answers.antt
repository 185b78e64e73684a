use Rattle.std.proofs.Common.{◌≡◌, ◌+◌, ◌≤◌, map, sym, ap, ◌∙◌, subst, arith}
use Rattle.std.specs.Prelude.{IfOk}
use Rattle.std.specs.Option.{option_map}
use Rattle.camelot_tree.specs.Tree.{expression_of, branch_of, expressions, arms}
use Rattle.camelot_tree.specs.Spine.{size, expressions_size}
use Rattle.camelot_tree.specs.SpineLaws.{front_popped, last_popped, none_larger, leaf_smaller, argument_smaller}
use Rattle.normal_form.specs.Normal.{cons_of}
use Rattle.normal_form.specs.Counts.{branch_made, branch_ends}
use Rattle.normal_form.specs.Parts.{Piece, piece_of, value_piece, arms_piece, matched, first_part}
use Rattle.normal_form.specs.Tables.{source_in}
use Rattle.normal_form.proofs.Climbing.{leaf_fits, climb_begun, next_parent, climbed_on}
use Rattle.normal_form.proofs.Naming.{ordered_smaller}
use Rattle.normal_form.proofs.Parts.{match_whole}
use Rattle.normal_form.proofs.Rooms.{on_ok, arg_made, arg_ends, next_over, over_made, over_ends, arm_left}
use Rattle.normal_form.proofs.value.+value.Goals as goal

pub value-value_leaf-requires : goal.value-value_leaf-requires
value-value_leaf-requires t c =
    let less = leaf_smaller (expression_of c.in_ok-spine.spine.leaf.now) (expression_of c.args.expr.now) c.in_ok-spine.ensures.leaf in
    let fits = leaf_fits (source_in c.args.known.now.typed.now) (expression_of c.in_ok-spine.spine.leaf.now) (expression_of c.args.expr.now) c.in_ok-spine.ensures.leaf in
    let locals = fits.locals in
    let ended = fits.ended in
    (omega (arith, less, c.decreases), (c.in_ok-spine.ensures.is_leaf, (omega (arith, locals, c.requires.locals), omega (arith, ended, c.requires.ended))))

pub value-up-init : goal.value-up-init
value-up-init t c = record {
  climbed = climb_begun (source_in c.args.known.now.typed.now) c.args.scope.now c.args.at.next c.args.at.number (expression_of c.args.expr.now) (expression_of c.in_ok-spine.spine.leaf.now) (map (λ parent. expression_of parent.now) c.in_ok-spine.spine.parents.items) (piece_of c.in_ok-part.part) c.in_ok-spine.ensures.parents c.in_ok-spine.ensures.leaf c.in_ok-part.ensures.part;
  scope = c.in_ok-part.ensures.scope;
  few = none_larger (map (λ parent. expression_of parent.now) c.in_ok-spine.spine.parents.items) (expression_of c.args.expr.now) c.in_ok-spine.ensures.parents;
}

pub value-value_around-requires : goal.value-value_around-requires
value-value_around-requires t c =
    let p = source_in c.args.known.now.typed.now in
    let few = last_popped (λ parent. expression_of parent.now) (size (expression_of c.args.expr.now)) c.up.parents.items c.pop.new.self.items c.in-Some.parent c.in-Some.ensures.items c.up.invariant.few in
    let parent = next_parent (λ parent. expression_of parent.now) p c.args.scope.now c.args.at.next c.args.at.number (expression_of c.args.expr.now) c.up.parents.items c.pop.new.self.items c.in-Some.parent (piece_of c.up.part) c.in-Some.ensures.items c.up.invariant.climbed in
    let locals = parent.locals in
    let ended = parent.ended in
    (omega (arith, few, c.decreases), (parent.first ∙ ap (λ s. value_piece p s c.args.at.next c.args.at.number (first_part (expression_of c.in-Some.parent.now))) (sym c.up.invariant.scope), (omega (arith, locals, c.requires.locals), omega (arith, ended, c.requires.ended))))

pub value-up-preserved : goal.value-up-preserved
value-up-preserved t c =
    let p = source_in c.args.known.now.typed.now in
    let parent = next_parent (λ parent. expression_of parent.now) p c.args.scope.now c.args.at.next c.args.at.number (expression_of c.args.expr.now) c.up.parents.items c.pop.new.self.items c.in-Some.parent (piece_of c.up.part) c.in-Some.ensures.items c.up.invariant.climbed in
    record {
      climbed = climbed_on p c.args.scope.now c.args.at.next c.args.at.number (expression_of c.args.expr.now) (expression_of c.in-Some.parent.now) (map (λ parent. expression_of parent.now) c.pop.new.self.items) (piece_of c.up.part) (piece_of c.in_ok-part-2.part) parent
          (c.in_ok-part-2.ensures.part ∙ ap (λ s. value_piece p s c.args.at.next c.args.at.number (expression_of c.in-Some.parent.now)) c.up.invariant.scope);
      scope = c.in_ok-part-2.ensures.scope ∙ c.up.invariant.scope;
      few = front_popped (λ parent. expression_of parent.now) (size (expression_of c.args.expr.now)) c.up.parents.items c.pop.new.self.items c.in-Some.parent c.in-Some.ensures.items c.up.invariant.few;
    }

pub value_args-value-requires : goal.value_args-value-requires
value_args-value-requires t c =
    let p = source_in c.args.known.now.typed.now in
    let less = argument_smaller expression_of c.args.args.now c.args-2.arg-index c.arg-item.result c.args-2-test.true in
    let is : size (expression_of c.arg-item.result) ≤ expressions_size (expressions (map expression_of c.args.args.now)) = subst (λ e. size (expression_of e) ≤ expressions_size (expressions (map expression_of c.args.args.now))) (sym c.arg-item.is) less in
    let next = ap (λ q. q.next) c.args-2.invariant.whole in
    let number = ap (λ q. q.number) c.args-2.invariant.whole in
    let own = arg_made p c.args.args.now c.args-2.arg-index c.arg-item.result c.args-2-test.true c.arg-item.is in
    let own_blocks = arg_ends p c.args.args.now c.args-2.arg-index c.arg-item.result c.args-2-test.true c.arg-item.is in
    (omega (arith, is, c.decreases), (omega (arith, next, own, c.requires.locals), omega (arith, number, own_blocks, c.requires.ended)))

pub value_arm-returns-clause-scope : goal.value_arm-returns-clause-scope
value_arm-returns-clause-scope t c =
    on_ok c.and_body.result (c.leave.new.self ≡ c.args.scope.now)
    (arm_left (branch_of c.in-Some.arm.now) c.args.arms.end.next c.args.scope.now c.len-len.result c.bind_arm.new.scope c.value.new.scope c.leave.new.self c.len-len.ensures c.in_ok-bind_arm.ensures c.in_ok-body.ensures.scope c.leave.ensures)

pub value_arms-value_arm-requires : goal.value_arms-value_arm-requires
value_arms-value_arm-requires t c =
    let p = source_in c.args.known.now.typed.now in
    let as' = arms (map branch_of c.args.arms.now) in
    let f = option_map (λ a. branch_of a.now) in
    let order = ap (map f) c.deref-arm-items.ensures.value ∙ c.in_ok-order.ensures in
    let less = ordered_smaller f p as' c.deref-arm-items.result.now (cons_of p as') c.arms.arm-index c.arm-item.result order c.arms-test.true c.arm-item.is in
    let made = over_made p as' (map f c.deref-arm-items.result.now) order in
    let ended = over_ends p as' (map f c.deref-arm-items.result.now) order in
    let own = next_over (branch_made p) f c.deref-arm-items.result.now c.arms.arm-index c.arm-item.result c.arms-test.true c.arm-item.is in
    let own_blocks = next_over (branch_ends p) f c.deref-arm-items.result.now c.arms.arm-index c.arm-item.result c.arms-test.true c.arm-item.is in
    (omega (arith, less, c.decreases), (omega (arith, own, made, c.arms.invariant.locals, c.requires.locals), omega (arith, own_blocks, ended, c.arms.invariant.blocks, c.requires.ended)))

pub value_match-returns-clause-part : goal.value_match-returns-clause-part
value_match-returns-clause-part t c =
    let p = source_in c.args.known.now.typed.now in
    let as' = arms (map branch_of c.args.arms.now) in
    let e = expression_of c.args.on.now in
    let on = c.in_ok-on.on in
    subst (λ (q : Piece). IfOk c.matched.result (λ part. piece_of part ≡ q))
    (ap (matched (piece_of on)) (c.in_ok-arms.ensures.arms ∙ ap (λ s. arms_piece p s (on.end.next + 1) (on.end.number + 1) as') c.in_ok-on.ensures.scope)
    ∙ ap (λ (q : Piece). matched q (arms_piece p c.args.scope.now (q.next + 1) (q.number + 1) as')) c.in_ok-on.ensures.part
    ∙ match_whole p c.args.scope.now c.args.at.next c.args.at.number 0 e as') c.matched.ensures
