use Rattle.std.proofs.Common.{◌≡◌, ◌+◌, ◌*◌, drop, map}
use Rattle.std.specs.Option.{option_map}
use Rattle.camelot_tree.specs.Tree.{expression_of, branch_of, arms}
use Rattle.camelot_tree.specs.Spine.{size, arms_size}
use Rattle.normal_form.specs.Tables.{source_in}
use Rattle.normal_form.specs.Counts.{over, branch_tail_made, branch_tail_ends}
use Rattle.normal_form.specs.Parts.{tails_of, tail_arms_and, tails_piece}
use Rattle.normal_form.proofs.Naming.{body_size}
use Rattle.normal_form.proofs.tail.+tail.Given as goal

abbrev pub invariant-tail_arms-arms : goal.invariant-tail_arms-arms
invariant-tail_arms-arms l =
    let p = source_in l.known.typed.now in
    let rest = map (option_map (λ a. branch_of a.now)) (drop l.arm-index l.arm-items) in
    let all = map (option_map (λ a. branch_of a.now)) l.arm-items in
    record {
      whole : tail_arms_and p l.fn.scope (tails_of l.all) rest ≡ tails_piece p l.fn.scope l.fn.at.next l.fn.at.number (arms (map branch_of l.arms));
      scope : l.scope ≡ l.fn.scope;
      locals : l.all.end.next + over (branch_tail_made p) rest ≡ l.fn.at.next + over (branch_tail_made p) all;
      ended : l.all.end.number + over (branch_tail_ends p) rest ≡ l.fn.at.number + over (branch_tail_ends p) all;
    }

-- ranks: a match, its arms, one arm, and an expression
abbrev pub decreases-tail : goal.decreases-tail
decreases-tail l = 4 * size (expression_of l.expr.now)

abbrev pub decreases-tail_let : goal.decreases-tail_let
decreases-tail_let l = 4 * size (expression_of l.body.now) + 1

abbrev pub decreases-tail_branches : goal.decreases-tail_branches
decreases-tail_branches l = 4 * (size (expression_of l.yes.now) + size (expression_of l.no.now)) + 1

abbrev pub decreases-tail_match : goal.decreases-tail_match
decreases-tail_match l = 4 * (size (expression_of l.on.now) + arms_size (arms (map branch_of l.arms.now))) + 3

abbrev pub decreases-tail_arm : goal.decreases-tail_arm
decreases-tail_arm l = 4 * body_size (option_map (λ a. branch_of a.now) l.arm) + 1

abbrev pub decreases-tail_arms : goal.decreases-tail_arms
decreases-tail_arms l = 4 * arms_size (arms (map branch_of l.arms.now)) + 2
