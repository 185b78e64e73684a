use Rattle.std.proofs.Common.{◌≤◌, map, sym, subst, arith}
use Rattle.camelot_tree.specs.Tree.{expression_of, branch_of, expressions, arms}
use Rattle.camelot_tree.specs.Spine.{size, expressions_size, arms_size}
use Rattle.camelot_tree.specs.SpineLaws.{around_popped, front_popped, last_popped, argument_smaller, arm_smaller}
use Rattle.camelot_tree.proofs.copy.+copy.Goals as goal

pub copy_expr-up-preserved : goal.copy_expr-up-preserved
copy_expr-up-preserved t c = record {
  whole = around_popped (λ parent. expression_of parent.now) c.up.parents.items c.pop.new.self.items c.in-Some.parent (expression_of c.up.copy) (expression_of c.args.expr.now) (expression_of c.in_ok-copy-2.copy) c.in-Some.ensures.items c.up.invariant.whole c.in_ok-copy-2.ensures;
  few = front_popped (λ parent. expression_of parent.now) (size (expression_of c.args.expr.now)) c.up.parents.items c.pop.new.self.items c.in-Some.parent c.in-Some.ensures.items c.up.invariant.few;
}

pub copy_expr-copy_around-requires : goal.copy_expr-copy_around-requires
copy_expr-copy_around-requires t c =
    let few = last_popped (λ parent. expression_of parent.now) (size (expression_of c.args.expr.now)) c.up.parents.items c.pop.new.self.items c.in-Some.parent c.in-Some.ensures.items c.up.invariant.few in
    (omega (arith, few, c.decreases), tt)

pub copy_args-copy_expr-requires : goal.copy_args-copy_expr-requires
copy_args-copy_expr-requires t c =
    let less = argument_smaller expression_of c.args.args.now c.args-2.arg-index c.arg-item.result c.args-2-test.true in
    let is : size (expression_of c.arg-item.result) ≤ expressions_size (expressions (map expression_of c.args.args.now)) = subst (λ e. size (expression_of e) ≤ expressions_size (expressions (map expression_of c.args.args.now))) (sym c.arg-item.is) less in
    (omega (arith, is, c.decreases), tt)

pub copy_arms-copy_arm-requires : goal.copy_arms-copy_arm-requires
copy_arms-copy_arm-requires t c =
    let less = arm_smaller branch_of c.args.arms.now c.arms.arm-index c.arm-item.result c.arms-test.true in
    let is : size (branch_of c.arm-item.result).body ≤ arms_size (arms (map branch_of c.args.arms.now)) = subst (λ e. size (branch_of e).body ≤ arms_size (arms (map branch_of c.args.arms.now))) (sym c.arm-item.is) less in
    (omega (arith, is, c.decreases), tt)
