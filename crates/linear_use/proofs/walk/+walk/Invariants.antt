use Rattle.std.proofs.Common.{◌≡◌, ◌+◌, ◌*◌, suc, drop, map, length}
use Rattle.camelot_tree.specs.Tree.{expression_of, branch_of, expressions, arms}
use Rattle.camelot_tree.specs.Spine.{size, expressions_size, arms_size}
use Rattle.linear_use.specs.Walk.{globals_in, loans_in}
use Rattle.linear_use.specs.Uses.{lent_params}
use Rattle.linear_use.proofs.Climbing.{Climbed}
use Rattle.linear_use.proofs.Lists.{AllLeft, ArmsLeft}
use Rattle.linear_use.proofs.walk.+walk.Given as goal

abbrev pub invariant-walk-up : goal.invariant-walk-up
invariant-walk-up l = record {
  climbed : Climbed (loans_in l.known.typed.now) (globals_in l.known.typed.now) (expression_of l.expr) (map (λ parent. expression_of parent.now) l.parents.items) l.fn.state l.state;
}

abbrev pub decreases-walk-up : goal.decreases-walk-up
decreases-walk-up l = length l.parents.items

abbrev pub invariant-walk_args-all : goal.invariant-walk_args-all
invariant-walk_args-all l = record {
  left : AllLeft (loans_in l.known.typed.now) (globals_in l.known.typed.now) l.known.exprs.now (lent_params l.known.typed.now.types l.marks.params.now l.marks.kinds.now) (lent_params l.known.typed.now.types l.left.params.now l.left.kinds.now) (expressions (map expression_of l.args)) (expressions (map expression_of (drop l.arg-index l.args))) l.clear l.index l.initial.state l.state;
  place : l.index ≡ l.arg-index;
}

abbrev pub invariant-walk_arms-arms : goal.invariant-walk_arms-arms
invariant-walk_arms-arms l = record {
  left : ArmsLeft (loans_in l.known.typed.now) (globals_in l.known.typed.now) l.lent l.known.exprs.now (arms (map branch_of l.arms)) (arms (map branch_of (drop l.arm-index l.arms))) l.held l.initial.state l.state;
}

-- ranks: a call, arms and arguments, one arm, one argument, branches and a scrutinee, an expression, its innermost part
-- and the parts around it, and a let or a match
abbrev pub decreases-walk : goal.decreases-walk
decreases-walk l = 8 * size (expression_of l.expr.now) + 6

abbrev pub decreases-walk_rest : goal.decreases-walk_rest
decreases-walk_rest l = 8 * size (expression_of l.parent.now) + 5

abbrev pub decreases-walk_parts : goal.decreases-walk_parts
decreases-walk_parts l = 8 * size (expression_of l.expr.now) + 5

abbrev pub decreases-walk_branches : goal.decreases-walk_branches
decreases-walk_branches l = 8 * (size (expression_of l.yes.now) + size (expression_of l.no.now)) + 7

abbrev pub decreases-walk_let : goal.decreases-walk_let
decreases-walk_let l = 8 * suc (size (expression_of l.value.now) + size (expression_of l.body.now)) + 4

abbrev pub decreases-walk_match : goal.decreases-walk_match
decreases-walk_match l = 8 * suc (size (expression_of l.on.now) + arms_size (arms (map branch_of l.arms.now))) + 4

abbrev pub decreases-walk_on : goal.decreases-walk_on
decreases-walk_on l = 8 * size (expression_of l.on.now) + 7

abbrev pub decreases-walk_call : goal.decreases-walk_call
decreases-walk_call l = 8 * expressions_size (expressions (map expression_of l.args.now)) + 9

abbrev pub decreases-walk_args : goal.decreases-walk_args
decreases-walk_args l = 8 * expressions_size (expressions (map expression_of l.args.now)) + 8

abbrev pub decreases-walk_arg : goal.decreases-walk_arg
decreases-walk_arg l = 8 * size (expression_of l.arg.now) + 7

abbrev pub decreases-walk_arm : goal.decreases-walk_arm
decreases-walk_arm l = 8 * size (branch_of l.arm.now).body + 7

abbrev pub decreases-walk_arms : goal.decreases-walk_arms
decreases-walk_arms l = 8 * arms_size (arms (map branch_of l.arms.now)) + 8
