use Rattle.std.proofs.Common.{◌≡◌, ◌+◌, ◌*◌, drop, map, length}
use Rattle.camelot_tree.specs.Tree.{expression_of, branch_of, expressions, arms}
use Rattle.camelot_tree.specs.Spine.{size, expressions_size, arms_size}
use Rattle.camelot_tree.specs.SpineLaws.{NoLarger}
use Rattle.camelot_types.specs.Tables.{globals_view}
use Rattle.camelot_types.specs.Working.{work_of}
use Rattle.camelot_types.specs.Solving.{Goes, walk, unwound}
use Rattle.camelot_types.proofs.Looping.{ArgsLeft, ArmsLeft}
use Rattle.camelot_types.proofs.walker.Walker.+walk.Given as goal

abbrev pub invariant-expr-up : goal.invariant-expr-up
invariant-expr-up l = record {
  whole : unwound (globals_view l.globals) l.fn.self.scope (map (λ parent. expression_of parent.now) l.parents.items) (Goes (record { work = work_of l.self; guess = l.guess })) ≡ walk (globals_view l.globals) l.fn.self.scope (work_of l.fn.self) (expression_of l.expr);
  few : NoLarger (size (expression_of l.expr)) (map (λ parent. expression_of parent.now) l.parents.items);
  scope : l.self.scope ≡ l.fn.self.scope;
}

abbrev pub decreases-expr-up : goal.decreases-expr-up
decreases-expr-up l = length l.parents.items

abbrev pub invariant-args-args-2 : goal.invariant-args-args-2
invariant-args-args-2 l = record {
  left : ArgsLeft (globals_view l.globals) l.fn.self.scope (work_of l.fn.self) (expressions (map expression_of l.args)) (work_of l.self) l.guesses.items (expressions (map expression_of (drop l.arg-index l.args)));
  scope : l.self.scope ≡ l.fn.self.scope;
}

abbrev pub invariant-arms-arms : goal.invariant-arms-arms
invariant-arms-arms l = record {
  left : ArmsLeft (globals_view l.globals) l.fn.self.scope (work_of l.fn.self) l.first.con l.first.guess (arms (map branch_of l.arms)) (work_of l.self) l.numbers.items (arms (map branch_of (drop l.arm-index l.arms)));
  scope : l.self.scope ≡ l.fn.self.scope;
}

-- by the sizes of expressions, and ranks among functions
abbrev pub decreases-expr : goal.decreases-expr
decreases-expr l = 8 * size (expression_of l.expr.now) + 5

abbrev pub decreases-rest : goal.decreases-rest
decreases-rest l = 8 * size (expression_of l.parent.now) + 4

abbrev pub decreases-leaf : goal.decreases-leaf
decreases-leaf l = 8 * size (expression_of l.expr.now) + 4

abbrev pub decreases-bound : goal.decreases-bound
decreases-bound l = 8 * (size (expression_of l.value.now) + size (expression_of l.body.now)) + 7

abbrev pub decreases-built : goal.decreases-built
decreases-built l = 8 * expressions_size (expressions (map expression_of l.args.now)) + 8

abbrev pub decreases-called : goal.decreases-called
decreases-called l = 8 * expressions_size (expressions (map expression_of l.args.now)) + 8

abbrev pub decreases-args : goal.decreases-args
decreases-args l = 8 * expressions_size (expressions (map expression_of l.args.now)) + 7

abbrev pub decreases-matched : goal.decreases-matched
decreases-matched l = 8 * (size (expression_of l.on.now) + arms_size (arms (map branch_of l.arms.now))) + 11

abbrev pub decreases-match_arms : goal.decreases-match_arms
decreases-match_arms l = 8 * (size (expression_of l.on.now) + arms_size (arms (map branch_of l.arms.now))) + 10

abbrev pub decreases-arm_body : goal.decreases-arm_body
decreases-arm_body l = 8 * size (branch_of l.arm.now).body + 6

abbrev pub decreases-first_arm : goal.decreases-first_arm
decreases-first_arm l = 8 * size (branch_of l.arm.now).body + 7

abbrev pub decreases-next_arm : goal.decreases-next_arm
decreases-next_arm l = 8 * size (branch_of l.arm.now).body + 7

abbrev pub decreases-arms : goal.decreases-arms
decreases-arms l = 8 * arms_size (arms (map branch_of l.arms.now)) + 8
