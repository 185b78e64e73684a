use Rattle.std.proofs.Common.{◌≤◌, drop, map, sym, subst, ap, ◌∙◌, arith}
use Rattle.std.specs.Option.{option_map}
use Rattle.camelot_tree.specs.Tree.{expression_of, branch_of, expressions, arms}
use Rattle.camelot_tree.specs.Spine.{size, expressions_size}
use Rattle.camelot_tree.specs.SpineLaws.{front_popped, last_popped, none_larger, leaf_smaller, argument_smaller}
use Rattle.normal_form.specs.Normal.{cons_of}
use Rattle.normal_form.specs.Counts.{counted, both, branch_made, branch_ends, counts_of, arms_counts}
use Rattle.normal_form.specs.Tables.{source_in}
use Rattle.normal_form.proofs.Counting.{both_still, counted_still, spine_counted, spine_popped, spine_done, all_done, arms_done, arms_counted, match_counted}
use Rattle.normal_form.proofs.Naming.{ordered_smaller, dropped_all}
use Rattle.normal_form.proofs.Trees.{match_is}
use Rattle.normal_form.proofs.count.+count.Goals as goal

pub count-count_leaf-requires : goal.count-count_leaf-requires
count-count_leaf-requires t c =
    let less = leaf_smaller (expression_of c.in_ok-spine.spine.leaf.now) (expression_of c.args.expr.now) c.in_ok-spine.ensures.leaf in
    (omega (arith, less, c.decreases), c.in_ok-spine.ensures.is_leaf)

pub count-up-init : goal.count-up-init
count-up-init t c = record {
  whole = spine_counted (source_in c.args.known.now.typed.now) (expression_of c.args.expr.now) (expression_of c.in_ok-spine.spine.leaf.now) (map (λ parent. expression_of parent.now) c.in_ok-spine.spine.parents.items) c.in_ok-counts.counts c.in_ok-spine.ensures.parents c.in_ok-spine.ensures.leaf c.in_ok-counts.ensures;
  steady = ap (λ x. both x (counted 0 0)) c.in_ok-counts.ensures ∙ counted_still _ _ ∙ sym c.in_ok-counts.ensures;
  few = none_larger (map (λ parent. expression_of parent.now) c.in_ok-spine.spine.parents.items) (expression_of c.args.expr.now) c.in_ok-spine.ensures.parents;
}

pub count-count_rest-requires : goal.count-count_rest-requires
count-count_rest-requires t c =
    let few = last_popped (λ parent. expression_of parent.now) (size (expression_of c.args.expr.now)) c.up.parents.items c.pop.new.self.items c.in-Some.parent c.in-Some.ensures.items c.up.invariant.few in
    (omega (arith, few, c.decreases), tt)

pub count-up-preserved : goal.count-up-preserved
count-up-preserved t c = record {
  whole = spine_popped (λ parent. expression_of parent.now) (source_in c.args.known.now.typed.now) c.up.parents.items c.pop.new.self.items c.in-Some.parent c.up.counts c.in_ok-count_rest.field-0 c.and-counts.result (counts_of (source_in c.args.known.now.typed.now) (expression_of c.args.expr.now)) c.in-Some.ensures.items c.up.invariant.whole c.in_ok-count_rest.ensures c.and-counts.ensures;
  steady = ap (λ x. both x (counted 0 0)) c.and-counts.ensures ∙ both_still c.up.counts c.in_ok-count_rest.field-0 ∙ sym c.and-counts.ensures;
  few = front_popped (λ parent. expression_of parent.now) (size (expression_of c.args.expr.now)) c.up.parents.items c.pop.new.self.items c.in-Some.parent c.in-Some.ensures.items c.up.invariant.few;
}

pub count-returns : goal.count-returns
count-returns t c =
    let none = c.in_default.ensures.cases.0 in
    let count = c.up.parents.ok.0 in
    spine_done (λ parent. expression_of parent.now) (source_in c.args.known.now.typed.now) c.up.parents.items c.up.counts (counts_of (source_in c.args.known.now.typed.now) (expression_of c.args.expr.now)) (omega (arith, none, count)) c.up.invariant.whole c.up.invariant.steady

pub count_all-count-requires : goal.count_all-count-requires
count_all-count-requires t c =
    let less = argument_smaller expression_of c.args.args.now c.args-2.arg-index c.arg-item.result c.args-2-test.true in
    let is : size (expression_of c.arg-item.result) ≤ expressions_size (expressions (map expression_of c.args.args.now)) = subst (λ e. size (expression_of e) ≤ expressions_size (expressions (map expression_of c.args.args.now))) (sym c.arg-item.is) less in
    (omega (arith, is, c.decreases), tt)

pub count_all-returns : goal.count_all-returns
count_all-returns t c =
    all_done (source_in c.args.known.now.typed.now) (map expression_of (drop c.args-2.arg-index c.args.args.now)) (map expression_of c.args.args.now) c.args-2.counts (ap (map expression_of) (dropped_all c.args.args.now c.args-2.arg-index c.args-2-test.false)) c.args-2.invariant.whole c.args-2.invariant.steady

pub count_arms-count_arm-requires : goal.count_arms-count_arm-requires
count_arms-count_arm-requires t c =
    let less = ordered_smaller (option_map (λ a. branch_of a.now)) (source_in c.args.known.now.typed.now) (arms (map branch_of c.args.arms.now)) c.deref-arm-items.result.now (cons_of (source_in c.args.known.now.typed.now) (arms (map branch_of c.args.arms.now))) c.arms.arm-index c.arm-item.result
    (ap (map (option_map (λ a. branch_of a.now))) c.deref-arm-items.ensures.value ∙ c.in_ok-order.ensures) c.arms-test.true c.arm-item.is in
    (omega (arith, less, c.decreases), tt)

pub count_arms-returns : goal.count_arms-returns
count_arms-returns t c =
    let p = source_in c.args.known.now.typed.now in
    let f = option_map (λ a. branch_of a.now) in
    arms_done (branch_made p) (branch_ends p) (map f (drop c.arms.arm-index c.deref-arm-items.result.now)) (map f c.deref-arm-items.result.now) c.arms.counts (arms_counts p (arms (map branch_of c.args.arms.now)))
    (ap (map f) (dropped_all c.deref-arm-items.result.now c.arms.arm-index c.arms-test.false)) c.arms.invariant.whole c.arms.invariant.steady
    (arms_counted p (arms (map branch_of c.args.arms.now)) (map f c.deref-arm-items.result.now) (ap (map f) c.deref-arm-items.ensures.value ∙ c.in_ok-order.ensures))

pub count_leaf-returns-in_ok-second-in-Match : goal.count_leaf-returns-in_ok-second-in-Match
count_leaf-returns-in_ok-second-in-Match t c =
    let p = source_in c.args.known.now.typed.now in
    match_counted p (expression_of c.args.expr.now) (expression_of c.in-Match.on.value) (arms (map branch_of c.in-Match.arms.items)) c.in-Match.line c.in_ok-first-in-Match.first c.in_ok-second-in-Match.second c.and-in-Match.result c.new-in-Match.result c.and-in-Match-2.result
    (ap expression_of c.in-Match.is ∙ match_is c.in-Match.on c.in-Match.arms c.in-Match.line)
    (c.in_ok-first-in-Match.ensures ∙ ap (λ e. counts_of p (expression_of e)) c.deref-in-Match.ensures)
    (c.in_ok-second-in-Match.ensures ∙ ap (λ l. arms_counts p (arms (map branch_of l))) c.deref-in-Match-2.ensures.value) c.and-in-Match.ensures c.new-in-Match.ensures c.and-in-Match-2.ensures
