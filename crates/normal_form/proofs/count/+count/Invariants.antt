use Rattle.std.proofs.Common.{◌≡◌, ◌+◌, ◌*◌, drop, map, length}
use Rattle.std.specs.Option.{option_map}
use Rattle.camelot_tree.specs.Tree.{expression_of, branch_of, expressions, arms}
use Rattle.camelot_tree.specs.Spine.{size, expressions_size, arms_size}
use Rattle.camelot_tree.specs.SpineLaws.{NoLarger}
use Rattle.normal_form.specs.Tables.{source_in}
use Rattle.normal_form.specs.Counts.{counted, both, over, rests_made, rests_ends, branch_made, branch_ends, counts_of, all_counts}
use Rattle.normal_form.proofs.Naming.{body_size}
use Rattle.normal_form.proofs.count.+count.Given as goal

abbrev pub invariant-count-up : goal.invariant-count-up
invariant-count-up l =
    let ps = map (λ parent. expression_of parent.now) l.parents.items in
    let p = source_in l.known.typed.now in
    record {
      whole : both l.counts (counted (rests_made p ps) (rests_ends p ps)) ≡ counts_of p (expression_of l.expr);
      steady : both l.counts (counted 0 0) ≡ l.counts;
      few : NoLarger (size (expression_of l.expr)) ps;
    }

abbrev pub decreases-count-up : goal.decreases-count-up
decreases-count-up l = length l.parents.items

abbrev pub invariant-count_all-args-2 : goal.invariant-count_all-args-2
invariant-count_all-args-2 l =
    let p = source_in l.known.typed.now in
    record {
      whole : both l.counts (all_counts p (expressions (map expression_of (drop l.arg-index l.args)))) ≡ all_counts p (expressions (map expression_of l.args));
      steady : both l.counts (counted 0 0) ≡ l.counts;
    }

abbrev pub invariant-count_arms-arms : goal.invariant-count_arms-arms
invariant-count_arms-arms l =
    let p = source_in l.known.typed.now in
    let rest = map (option_map (λ a. branch_of a.now)) (drop l.arm-index l.arm-items) in
    let all = map (option_map (λ a. branch_of a.now)) l.arm-items in
    record {
      whole : both l.counts (counted (over (branch_made p) rest) (over (branch_ends p) rest)) ≡ counted (over (branch_made p) all) (over (branch_ends p) all);
      steady : both l.counts (counted 0 0) ≡ l.counts;
    }

-- ranks: arms, one arm or arguments, an expression, and its parts
abbrev pub decreases-count : goal.decreases-count
decreases-count l = 4 * size (expression_of l.expr.now) + 1

abbrev pub decreases-count_rest : goal.decreases-count_rest
decreases-count_rest l = 4 * size (expression_of l.parent.now)

abbrev pub decreases-count_leaf : goal.decreases-count_leaf
decreases-count_leaf l = 4 * size (expression_of l.expr.now)

abbrev pub decreases-count_all : goal.decreases-count_all
decreases-count_all l = 4 * expressions_size (expressions (map expression_of l.args.now)) + 2

abbrev pub decreases-count_arm : goal.decreases-count_arm
decreases-count_arm l = 4 * body_size (option_map (λ a. branch_of a.now) l.arm) + 2

abbrev pub decreases-count_arms : goal.decreases-count_arms
decreases-count_arms l = 4 * arms_size (arms (map branch_of l.arms.now)) + 3
