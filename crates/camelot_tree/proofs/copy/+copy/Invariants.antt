use Rattle.std.proofs.Common.{◌≡◌, ◌+◌, ◌*◌, ◌++◌, drop, map, length}
use Rattle.camelot_tree.specs.Tree.{expression_of, branch_of, expressions, arms}
use Rattle.camelot_tree.specs.Spine.{around, size, expressions_size, arms_size}
use Rattle.camelot_tree.specs.SpineLaws.{NoLarger}
use Rattle.camelot_tree.proofs.copy.+copy.Given as goal

abbrev pub invariant-copy_args-args-2 : goal.invariant-copy_args-args-2
invariant-copy_args-args-2 l = map expression_of l.copy.items ++ map expression_of (drop l.arg-index l.args) ≡ map expression_of l.args

abbrev pub invariant-copy_arms-arms : goal.invariant-copy_arms-arms
invariant-copy_arms-arms l = map branch_of l.copy.items ++ map branch_of (drop l.arm-index l.arms) ≡ map branch_of l.arms

abbrev pub invariant-copy_expr-up : goal.invariant-copy_expr-up
invariant-copy_expr-up l = record {
  whole : around (map (λ parent. expression_of parent.now) l.parents.items) (expression_of l.copy) ≡ expression_of l.expr;
  few : NoLarger (size (expression_of l.expr)) (map (λ parent. expression_of parent.now) l.parents.items);
}

abbrev pub decreases-copy_expr-up : goal.decreases-copy_expr-up
decreases-copy_expr-up l = length l.parents.items

-- ranks: a build or a call, arms, one arm, arguments, an expression, and its parts
abbrev pub decreases-copy_expr : goal.decreases-copy_expr
decreases-copy_expr l = 4 * size (expression_of l.expr.now) + 1

abbrev pub decreases-copy_around : goal.decreases-copy_around
decreases-copy_around l = 4 * size (expression_of l.parent.now)

abbrev pub decreases-copy_leaf : goal.decreases-copy_leaf
decreases-copy_leaf l = 4 * size (expression_of l.expr.now)

abbrev pub decreases-copy_args : goal.decreases-copy_args
decreases-copy_args l = 4 * expressions_size (expressions (map expression_of l.args.now)) + 2

abbrev pub decreases-copy_arm : goal.decreases-copy_arm
decreases-copy_arm l = 4 * size (branch_of l.arm.now).body + 2

abbrev pub decreases-copy_arms : goal.decreases-copy_arms
decreases-copy_arms l = 4 * arms_size (arms (map branch_of l.arms.now)) + 3

abbrev pub decreases-copy_build : goal.decreases-copy_build
decreases-copy_build l = 4 * expressions_size (expressions (map expression_of l.build.now.args.items)) + 3

abbrev pub decreases-copy_call : goal.decreases-copy_call
decreases-copy_call l = 4 * expressions_size (expressions (map expression_of l.call.now.args.items)) + 3
