use Rattle.std.proofs.Common.{◌≡◌, ◌+◌, ◌*◌, drop, map}
use Rattle.std.specs.Option.{option_map}
use Rattle.camelot_tree.specs.Tree.{expression_of, branch_of, arms}
use Rattle.camelot_tree.specs.Spine.{size, arms_size}
use Rattle.normal_form.specs.Tables.{source_in}
use Rattle.normal_form.specs.Counts.{counted, both, over, branch_tail_made, branch_tail_ends}
use Rattle.normal_form.proofs.Naming.{body_size}
use Rattle.normal_form.proofs.count_tail.+count_tail.Given as goal

abbrev pub invariant-count_tail_arms-arms : goal.invariant-count_tail_arms-arms
invariant-count_tail_arms-arms l =
    let p = source_in l.known.typed.now in
    let rest = map (option_map (λ a. branch_of a.now)) (drop l.arm-index l.arm-items) in
    let all = map (option_map (λ a. branch_of a.now)) l.arm-items in
    record {
      whole : both l.counts (counted (over (branch_tail_made p) rest) (over (branch_tail_ends p) rest)) ≡ counted (over (branch_tail_made p) all) (over (branch_tail_ends p) all);
      steady : both l.counts (counted 0 0) ≡ l.counts;
    }

-- ranks: a match, its arms, one arm, and an expression
abbrev pub decreases-count_tail : goal.decreases-count_tail
decreases-count_tail l = 4 * size (expression_of l.expr.now)

abbrev pub decreases-count_tail_match : goal.decreases-count_tail_match
decreases-count_tail_match l = 4 * (size (expression_of l.on.now) + arms_size (arms (map branch_of l.arms.now))) + 3

abbrev pub decreases-count_tail_arm : goal.decreases-count_tail_arm
decreases-count_tail_arm l = 4 * body_size (option_map (λ a. branch_of a.now) l.arm) + 1

abbrev pub decreases-count_tail_arms : goal.decreases-count_tail_arms
decreases-count_tail_arms l = 4 * arms_size (arms (map branch_of l.arms.now)) + 2
