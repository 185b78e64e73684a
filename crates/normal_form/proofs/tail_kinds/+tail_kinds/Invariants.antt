use Rattle.std.proofs.Common.{◌≡◌, ◌+◌, ◌*◌, ◌++◌, drop, map}
use Rattle.std.specs.Option.{option_map}
use Rattle.camelot_tree.specs.Tree.{expression_of, branch_of, arms}
use Rattle.camelot_tree.specs.Spine.{size, arms_size}
use Rattle.normal_form.specs.Tables.{source_in, signatures_in}
use Rattle.normal_form.specs.KindParts.{all_tail_branches}
use Rattle.normal_form.proofs.Naming.{body_size}
use Rattle.normal_form.proofs.tail_kinds.+tail_kinds.Given as goal

abbrev pub invariant-all_tail_arm_kinds-arms : goal.invariant-all_tail_arm_kinds-arms
invariant-all_tail_arm_kinds-arms l =
    let p = source_in l.known.typed.now in
    let sigs = signatures_in l.known.typed.now in
    record {
      whole : l.all.items ++ all_tail_branches p sigs l.fn.scope (map (option_map (λ a. branch_of a.now)) (drop l.arm-index l.arm-items)) ≡ all_tail_branches p sigs l.fn.scope (map (option_map (λ a. branch_of a.now)) l.arm-items);
      scope : l.scope ≡ l.fn.scope;
    }

-- ranks: a match, its arms, one arm, and an expression
abbrev pub decreases-tail_kinds : goal.decreases-tail_kinds
decreases-tail_kinds l = 4 * size (expression_of l.expr.now)

abbrev pub decreases-tail_let_kinds : goal.decreases-tail_let_kinds
decreases-tail_let_kinds l = 4 * size (expression_of l.body.now) + 1

abbrev pub decreases-tail_match_kinds : goal.decreases-tail_match_kinds
decreases-tail_match_kinds l = 4 * (size (expression_of l.on.now) + arms_size (arms (map branch_of l.arms.now))) + 3

abbrev pub decreases-tail_arm_kinds : goal.decreases-tail_arm_kinds
decreases-tail_arm_kinds l = 4 * body_size (option_map (λ a. branch_of a.now) l.arm) + 1

abbrev pub decreases-all_tail_arm_kinds : goal.decreases-all_tail_arm_kinds
decreases-all_tail_arm_kinds l = 4 * arms_size (arms (map branch_of l.arms.now)) + 2
