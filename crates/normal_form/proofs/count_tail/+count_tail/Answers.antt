use Rattle.std.proofs.Common.{drop, map, ap, ◌∙◌, arith}
use Rattle.std.specs.Option.{option_map}
use Rattle.camelot_tree.specs.Tree.{branch_of, arms}
use Rattle.normal_form.specs.Normal.{cons_of}
use Rattle.normal_form.specs.Counts.{branch_tail_made, branch_tail_ends, arms_tail_counts}
use Rattle.normal_form.specs.Tables.{source_in}
use Rattle.normal_form.proofs.Counting.{arms_done, tail_arms_counted}
use Rattle.normal_form.proofs.Naming.{ordered_smaller, dropped_all}
use Rattle.normal_form.proofs.count_tail.+count_tail.Goals as goal

pub count_tail_arms-count_tail_arm-requires : goal.count_tail_arms-count_tail_arm-requires
count_tail_arms-count_tail_arm-requires t c =
    let less = ordered_smaller (option_map (λ a. branch_of a.now)) (source_in c.args.known.now.typed.now) (arms (map branch_of c.args.arms.now)) c.deref-arm-items.result.now (cons_of (source_in c.args.known.now.typed.now) (arms (map branch_of c.args.arms.now))) c.arms.arm-index c.arm-item.result
    (ap (map (option_map (λ a. branch_of a.now))) c.deref-arm-items.ensures.value ∙ c.in_ok-order.ensures) c.arms-test.true c.arm-item.is in
    (omega (arith, less, c.decreases), tt)

pub count_tail_arms-returns : goal.count_tail_arms-returns
count_tail_arms-returns t c =
    let p = source_in c.args.known.now.typed.now in
    let f = option_map (λ a. branch_of a.now) in
    arms_done (branch_tail_made p) (branch_tail_ends p) (map f (drop c.arms.arm-index c.deref-arm-items.result.now)) (map f c.deref-arm-items.result.now) c.arms.counts (arms_tail_counts p (arms (map branch_of c.args.arms.now)))
    (ap (map f) (dropped_all c.deref-arm-items.result.now c.arms.arm-index c.arms-test.false)) c.arms.invariant.whole c.arms.invariant.steady
    (tail_arms_counted p (arms (map branch_of c.args.arms.now)) (map f c.deref-arm-items.result.now) (ap (map f) c.deref-arm-items.ensures.value ∙ c.in_ok-order.ensures))
