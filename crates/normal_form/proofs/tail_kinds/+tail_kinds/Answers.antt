use Rattle.std.proofs.Common.{drop, map, ap, ◌∙◌, arith}
use Rattle.std.specs.Option.{option_map}
use Rattle.camelot_tree.specs.Tree.{branch_of, arms}
use Rattle.normal_form.specs.Normal.{cons_of}
use Rattle.normal_form.specs.Tables.{source_in, signatures_in}
use Rattle.normal_form.proofs.Naming.{ordered_smaller, dropped_all}
use Rattle.normal_form.proofs.KindClimbing.{all_tails_ended, arm_kinds_left}
use Rattle.normal_form.proofs.tail_kinds.+tail_kinds.Goals as goal

pub all_tail_arm_kinds-tail_arm_kinds-requires : goal.all_tail_arm_kinds-tail_arm_kinds-requires
all_tail_arm_kinds-tail_arm_kinds-requires t c =
    let p = source_in c.args.known.now.typed.now in
    let as' = arms (map branch_of c.args.arms.now) in
    let f = option_map (λ a. branch_of a.now) in
    let less = ordered_smaller f p as' c.deref-arm-items.result.now (cons_of p as') c.arms.arm-index c.arm-item.result (ap (map f) c.deref-arm-items.ensures.value ∙ c.in_ok-order.ensures) c.arms-test.true c.arm-item.is in
    (omega (arith, less, c.decreases), tt)

pub all_tail_arm_kinds-returns-clause-kinds : goal.all_tail_arm_kinds-returns-clause-kinds
all_tail_arm_kinds-returns-clause-kinds t c =
    let f = option_map (λ a. branch_of a.now) in
    all_tails_ended (source_in c.args.known.now.typed.now) (signatures_in c.args.known.now.typed.now) c.args.scope.now (arms (map branch_of c.args.arms.now)) c.arms.all.items (map f (drop c.arms.arm-index c.deref-arm-items.result.now)) (map f c.deref-arm-items.result.now)
    (ap (map f) (dropped_all c.deref-arm-items.result.now c.arms.arm-index c.arms-test.false)) c.arms.invariant.whole (ap (map f) c.deref-arm-items.ensures.value ∙ c.in_ok-order.ensures)

pub tail_arm_kinds-returns-clause-scope : goal.tail_arm_kinds-returns-clause-scope
tail_arm_kinds-returns-clause-scope t c =
    arm_kinds_left (source_in c.args.known.now.typed.now) (branch_of c.in-Some.arm.now) c.args.scope.now c.len-len.result c.bind_arm_kinds.new.scope c.tail_kinds.new.scope c.leave.new.self c.len-len.ensures c.in_ok-bind_arm_kinds.ensures c.in_ok-body.ensures.scope c.leave.ensures
