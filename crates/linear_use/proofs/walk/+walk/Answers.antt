use Rattle.std.proofs.Common.{◌≡◌, ◌+◌, ◌≤◌, ◌<◌, [], ◌++◌, map, length, drop, refl, sym, ap, ◌∙◌, subst, arith}
use Rattle.camelot_tree.specs.declared.tree.Build.{Build as BuildParts}
use Rattle.camelot_tree.specs.Tree.{Expression, Expressions, Prim, If, Match, Build, Arms, expression_of, branch_of, operator_of, expressions, arms}
use Rattle.camelot_tree.specs.Spine.{size, expressions_size, arms_size}
use Rattle.camelot_tree.specs.SpineLaws.{leaf_smaller, argument_smaller, arm_smaller}
use Rattle.linear_use.specs.declared.state.State.{State}
use Rattle.linear_use.specs.Uses.{lent_params}
use Rattle.linear_use.specs.Flow.{all_flow, all_next, kinds_in, cell_flow, place_flow}
use Rattle.linear_use.specs.Walk.{globals_in, loans_in, AreAt, Walked, Walks, WalksParts, kinds_at, all_kinds_at, arms_kinds_at}
use Rattle.linear_use.proofs.Walking.{with_scope, with_spent, with_end, at_front}
use Rattle.linear_use.proofs.Climbing.{WalkedTerm, climb_begun, leaf_at, leaf_end, climb_smaller, climb_at, climbed_on}
use Rattle.linear_use.proofs.Lists.{argument_own, argument_end, plain_walked, all_begun, all_at, all_step, all_ended, left_expressions, over_expressions, arms_at, arms_step, left_arms}
use Rattle.linear_use.proofs.Bodies.{let_bound, let_at, let_walked, arm_at, arm_walked}
use Rattle.linear_use.proofs.Trees.{WalkedBranches, arm_is, match_is, build_is, prim_is, if_is, match_at, match_smaller, match_whole, build_walked, prim_at, prim_smaller, prim_walked, if_at, if_smaller, if_walked, prim_end, if_end}
use Rattle.linear_use.proofs.walk.+walk.Goals as goal
use Rattle.linear_use.proofs.walk.+walk.Goals.{walk_rest-in-Prim+in_ok-walk-in-Prim, walk_rest-in-If+in_ok-walk_branches-in-If}

pub walk-walk_parts-requires : goal.walk-walk_parts-requires
walk-walk_parts-requires t c =
    let less = leaf_smaller (expression_of c.in_ok-spine.spine.leaf.now) (expression_of c.args.expr.now) c.in_ok-spine.ensures.leaf in
    (omega (arith, less, c.decreases), (c.in_ok-spine.ensures.is_leaf, leaf_at (globals_in c.args.known.now.typed.now) (kinds_in c.args.state.now.scope) c.args.known.now.exprs.now c.args.state.now.position (expression_of c.args.expr.now) (expression_of c.in_ok-spine.spine.leaf.now) c.in_ok-spine.ensures.leaf c.requires))

pub walk-finish-requires : goal.walk-finish-requires
walk-finish-requires t c =
    leaf_end (loans_in c.args.known.now.typed.now) (globals_in c.args.known.now.typed.now) c.args.known.now.exprs.now (expression_of c.args.expr.now) (expression_of c.in_ok-spine.spine.leaf.now) c.args.state.now c.walk_parts.new.state c.in_ok-spine.ensures.leaf c.requires c.in_ok-walk_parts.ensures

pub walk-up-init : goal.walk-up-init
walk-up-init t c =
    record {
      climbed = climb_begun (loans_in c.args.known.now.typed.now) (globals_in c.args.known.now.typed.now) (expression_of c.args.expr.now) (expression_of c.in_ok-spine.spine.leaf.now) _ c.args.state.now c.walk_parts.new.state c.finish.new.self c.in_ok-spine.ensures.parents c.in_ok-spine.ensures.leaf c.in_ok-walk_parts.ensures c.finish.ensures;
    }

pub walk-walk_rest-requires : goal.walk-walk_rest-requires
walk-walk_rest-requires t c =
    let less = climb_smaller (λ parent. expression_of parent.now) (loans_in c.args.known.now.typed.now) (globals_in c.args.known.now.typed.now) (expression_of c.args.expr.now) c.up.parents.items c.pop.new.self.items c.in-Some.parent c.args.state.now c.up.state c.in-Some.ensures.items c.up.invariant.climbed in
    (omega (arith, less, c.decreases), climb_at (λ parent. expression_of parent.now) (loans_in c.args.known.now.typed.now) (globals_in c.args.known.now.typed.now) (expression_of c.args.expr.now) c.up.parents.items c.pop.new.self.items c.in-Some.parent c.args.state.now c.up.state c.args.known.now.exprs.now c.in-Some.ensures.items c.up.invariant.climbed c.requires)

pub walk-up-preserved : goal.walk-up-preserved
walk-up-preserved t c =
    record { climbed = climbed_on (λ parent. expression_of parent.now) (loans_in c.args.known.now.typed.now) (globals_in c.args.known.now.typed.now) (expression_of c.args.expr.now) c.up.parents.items c.pop.new.self.items c.in-Some.parent c.args.state.now c.up.state c.walk_rest.new.state c.in-Some.ensures.items c.up.invariant.climbed c.in_ok-walk_rest.ensures }

pub walk_arms-walk_arm-requires : goal.walk_arms-walk_arm-requires
walk_arms-walk_arm-requires t c =
    let less = arm_smaller branch_of c.args.arms.now c.arms.arm-index c.arm-item.result c.arms-test.true in
    let is : size (branch_of c.arm-item.result).body ≤ arms_size (arms (map branch_of c.args.arms.now)) = subst (λ e. size (branch_of e).body ≤ arms_size (arms (map branch_of c.args.arms.now))) (sym c.arm-item.is) less in
    (omega (arith, is, c.decreases), arms_at (loans_in c.args.known.now.typed.now) (globals_in c.args.known.now.typed.now) c.args.lent c.args.known.now.exprs.now (arms (map branch_of c.args.arms.now)) (arms (map branch_of (drop c.arms.arm-index c.args.arms.now))) (arms (map branch_of (drop (c.arms.arm-index + 1) c.args.arms.now))) (branch_of c.arm-item.result) c.arms.held c.args.state.now c.arms.state (left_arms branch_of c.args.arms.now c.arms.arm-index (c.arms.arm-index + 1) c.arm-item.result refl c.arms-test.true c.arm-item.is) c.arms.invariant.left)

pub walk_let-walk-requires : goal.walk_let-walk-requires
walk_let-walk-requires t c =
    (omega (arith, c.decreases), at_front c.args.known.now.exprs.now c.args.state.now.position (kinds_at (globals_in c.args.known.now.typed.now) c.args.state.now (expression_of c.args.value.now)) _ c.requires)

pub walk_let-walk-requires-2 : goal.walk_let-walk-requires-2
walk_let-walk-requires-2 t c =
    let bound = (let_bound (loans_in c.args.known.now.typed.now) (globals_in c.args.known.now.typed.now) c.args.known.now.exprs.now c.args.name.now (expression_of c.args.value.now) (expression_of c.args.body.now) c.kind_behind-kind.result c.args.state.now c.walk.new.state c.bind.new.self c.requires c.in_ok-walk.ensures c.kind_behind-kind.ensures c.in_ok-bind.ensures.scope c.in_ok-bind.ensures.next c.in_ok-bind.ensures.spent c.in_ok-bind.ensures.position c.in_ok-bind.ensures.fault) in
    (omega (arith, c.decreases), let_at (loans_in c.args.known.now.typed.now) (globals_in c.args.known.now.typed.now) c.args.known.now.exprs.now c.args.name.now (expression_of c.args.value.now) (expression_of c.args.body.now) c.args.state.now c.walk.new.state c.bind.new.self c.requires c.in_ok-walk.ensures bound)

pub walk_let-returns : goal.walk_let-returns
walk_let-returns t c =
    let bound = (let_bound (loans_in c.args.known.now.typed.now) (globals_in c.args.known.now.typed.now) c.args.known.now.exprs.now c.args.name.now (expression_of c.args.value.now) (expression_of c.args.body.now) c.kind_behind-kind.result c.args.state.now c.walk.new.state c.bind.new.self c.requires c.in_ok-walk.ensures c.kind_behind-kind.ensures c.in_ok-bind.ensures.scope c.in_ok-bind.ensures.next c.in_ok-bind.ensures.spent c.in_ok-bind.ensures.position c.in_ok-bind.ensures.fault) in
    let_walked (loans_in c.args.known.now.typed.now) (globals_in c.args.known.now.typed.now) c.args.name.now (expression_of c.args.value.now) (expression_of c.args.body.now) c.len-len.result c.args.state.now c.walk.new.state c.bind.new.self c.walk-2.new.state _ c.in_ok-walk.ensures c.len-len.ensures bound c.in_ok-walk-2.ensures
    (with_scope c.walk-2.new.state _ _ c.leave.ensures)

pub walk_rest-walk-requires : goal.walk_rest-walk-requires
walk_rest-walk-requires t c =
    let is : (expression_of c.args.parent.now) ≡ Prim (operator_of c.in-Prim.op) (expression_of c.in-Prim.left.value) (expression_of c.in-Prim.right.value) c.in-Prim.line = ap expression_of c.in-Prim.is ∙ prim_is c.in-Prim.op c.in-Prim.left c.in-Prim.right c.in-Prim.line in
    let right : expression_of c.deref.result.now ≡ expression_of c.in-Prim.right.value = ap expression_of c.deref.ensures in
    let less = prim_smaller (expression_of c.args.parent.now) (expression_of c.in-Prim.left.value) (expression_of c.in-Prim.right.value) (operator_of c.in-Prim.op) c.in-Prim.line is in
    let size_is = ap size right in
    (omega (arith, less, size_is, c.decreases), subst (λ x. AreAt c.args.known.now.exprs.now c.args.state.now.position (kinds_at (globals_in c.args.known.now.typed.now) c.args.state.now x)) (sym right) (prim_at (globals_in c.args.known.now.typed.now) c.args.known.now.exprs.now c.args.state.now (expression_of c.args.parent.now) (expression_of c.in-Prim.left.value) (expression_of c.in-Prim.right.value) (operator_of c.in-Prim.op) c.in-Prim.line is c.requires))

pub walk_rest-walk_branches-requires : goal.walk_rest-walk_branches-requires
walk_rest-walk_branches-requires t c =
    let is : (expression_of c.args.parent.now) ≡ If (expression_of c.in-If.cond.value) (expression_of c.in-If.yes.value) (expression_of c.in-If.no.value) c.in-If.line = ap expression_of c.in-If.is ∙ if_is c.in-If.cond c.in-If.yes c.in-If.no c.in-If.line in
    let yes : expression_of c.deref-in-If.result.now ≡ expression_of c.in-If.yes.value = ap expression_of c.deref-in-If.ensures in
    let no : expression_of c.deref-in-If-2.result.now ≡ expression_of c.in-If.no.value = ap expression_of c.deref-in-If-2.ensures in
    let less = if_smaller (expression_of c.args.parent.now) (expression_of c.in-If.cond.value) (expression_of c.in-If.yes.value) (expression_of c.in-If.no.value) c.in-If.line is in
    let yes_size = ap size yes in
    let no_size = ap size no in
    let P : Expression → Expression → Type 0 = λ a b. AreAt c.args.known.now.exprs.now c.args.state.now.position (kinds_at (globals_in c.args.known.now.typed.now) c.args.state.now a ++ kinds_at (globals_in c.args.known.now.typed.now) c.args.state.now b) in
    (omega (arith, less, yes_size, no_size, c.decreases), subst (λ a. P a (expression_of c.deref-in-If-2.result.now)) (sym yes) (subst (λ b. P (expression_of c.in-If.yes.value) b) (sym no) (if_at (globals_in c.args.known.now.typed.now) c.args.known.now.exprs.now c.args.state.now (expression_of c.args.parent.now) (expression_of c.in-If.cond.value) (expression_of c.in-If.yes.value) (expression_of c.in-If.no.value) c.in-If.line is c.requires)))

pub walk_rest-finish-requires : goal.walk_rest-finish-requires
walk_rest-finish-requires t c =
    elim c.match-parent.branch [
      | walk_rest-in-Prim+in_ok-walk-in-Prim w ↦
          let is : (expression_of c.args.parent.now) ≡ Prim (operator_of w.in-Prim.op) (expression_of w.in-Prim.left.value) (expression_of w.in-Prim.right.value) w.in-Prim.line = ap expression_of w.in-Prim.is ∙ prim_is w.in-Prim.op w.in-Prim.left w.in-Prim.right w.in-Prim.line in
          let right : expression_of w.deref.result.now ≡ expression_of w.in-Prim.right.value = ap expression_of w.deref.ensures in
          subst (λ (s : State). s.position < length c.args.known.now.exprs.now) (sym w.state-is)
          (prim_end (loans_in c.args.known.now.typed.now) (globals_in c.args.known.now.typed.now) c.args.known.now.exprs.now c.args.state.now w.walk.new.state (expression_of c.args.parent.now) (expression_of w.in-Prim.left.value) (expression_of w.in-Prim.right.value) (operator_of w.in-Prim.op) w.in-Prim.line is c.requires
          (subst (λ x. WalkedTerm (loans_in c.args.known.now.typed.now) (globals_in c.args.known.now.typed.now) x c.args.state.now w.walk.new.state) right w.in_ok-walk-in-Prim.ensures))
      | walk_rest-in-If+in_ok-walk_branches-in-If w ↦
          let is : (expression_of c.args.parent.now) ≡ If (expression_of w.in-If.cond.value) (expression_of w.in-If.yes.value) (expression_of w.in-If.no.value) w.in-If.line = ap expression_of w.in-If.is ∙ if_is w.in-If.cond w.in-If.yes w.in-If.no w.in-If.line in
          let yes : expression_of w.deref-in-If.result.now ≡ expression_of w.in-If.yes.value = ap expression_of w.deref-in-If.ensures in
          let no : expression_of w.deref-in-If-2.result.now ≡ expression_of w.in-If.no.value = ap expression_of w.deref-in-If-2.ensures in
          subst (λ (s : State). s.position < length c.args.known.now.exprs.now) (sym w.state-is)
          (if_end (loans_in c.args.known.now.typed.now) (globals_in c.args.known.now.typed.now) c.args.known.now.exprs.now c.args.state.now w.walk_branches.new.state (expression_of c.args.parent.now) (expression_of w.in-If.cond.value) (expression_of w.in-If.yes.value) (expression_of w.in-If.no.value) w.in-If.line is c.requires
          (subst (λ a. WalkedBranches (loans_in c.args.known.now.typed.now) (globals_in c.args.known.now.typed.now) a (expression_of w.in-If.no.value) c.args.state.now w.walk_branches.new.state) yes (subst (λ b. WalkedBranches (loans_in c.args.known.now.typed.now) (globals_in c.args.known.now.typed.now) (expression_of w.deref-in-If.result.now) b c.args.state.now w.walk_branches.new.state) no w.in_ok-walk_branches-in-If.ensures)))
    ]

pub walk_rest-returns : goal.walk_rest-returns
walk_rest-returns t c =
    elim c.match-parent.branch [
      | walk_rest-in-Prim+in_ok-walk-in-Prim w ↦
          let is : (expression_of c.args.parent.now) ≡ Prim (operator_of w.in-Prim.op) (expression_of w.in-Prim.left.value) (expression_of w.in-Prim.right.value) w.in-Prim.line = ap expression_of w.in-Prim.is ∙ prim_is w.in-Prim.op w.in-Prim.left w.in-Prim.right w.in-Prim.line in
          let right : expression_of w.deref.result.now ≡ expression_of w.in-Prim.right.value = ap expression_of w.deref.ensures in
          prim_walked (loans_in c.args.known.now.typed.now) (globals_in c.args.known.now.typed.now) c.args.state.now w.walk.new.state c.finish.new.self (expression_of c.args.parent.now) (expression_of w.in-Prim.left.value) (expression_of w.in-Prim.right.value) (operator_of w.in-Prim.op) w.in-Prim.line is (subst (λ x. WalkedTerm (loans_in c.args.known.now.typed.now) (globals_in c.args.known.now.typed.now) x c.args.state.now w.walk.new.state) right w.in_ok-walk-in-Prim.ensures)
          (c.finish.ensures ∙ with_end c.match-parent.state w.walk.new.state w.state-is)
      | walk_rest-in-If+in_ok-walk_branches-in-If w ↦
          let is : (expression_of c.args.parent.now) ≡ If (expression_of w.in-If.cond.value) (expression_of w.in-If.yes.value) (expression_of w.in-If.no.value) w.in-If.line = ap expression_of w.in-If.is ∙ if_is w.in-If.cond w.in-If.yes w.in-If.no w.in-If.line in
          let yes : expression_of w.deref-in-If.result.now ≡ expression_of w.in-If.yes.value = ap expression_of w.deref-in-If.ensures in
          let no : expression_of w.deref-in-If-2.result.now ≡ expression_of w.in-If.no.value = ap expression_of w.deref-in-If-2.ensures in
          if_walked (loans_in c.args.known.now.typed.now) (globals_in c.args.known.now.typed.now) c.args.state.now w.walk_branches.new.state c.finish.new.self (expression_of c.args.parent.now) (expression_of w.in-If.cond.value) (expression_of w.in-If.yes.value) (expression_of w.in-If.no.value) w.in-If.line is
          (subst (λ a. WalkedBranches (loans_in c.args.known.now.typed.now) (globals_in c.args.known.now.typed.now) a (expression_of w.in-If.no.value) c.args.state.now w.walk_branches.new.state) yes (subst (λ b. WalkedBranches (loans_in c.args.known.now.typed.now) (globals_in c.args.known.now.typed.now) (expression_of w.deref-in-If.result.now) b c.args.state.now w.walk_branches.new.state) no w.in_ok-walk_branches-in-If.ensures))
          (c.finish.ensures ∙ with_end c.match-parent.state w.walk_branches.new.state w.state-is)
    ]

pub walk_args-all-init : goal.walk_args-all-init
walk_args-all-init t c =
    record {
      left = all_begun (loans_in c.args.known.now.typed.now) (globals_in c.args.known.now.typed.now) c.args.known.now.exprs.now (lent_params c.args.known.now.typed.now.types c.args.marks.params.now c.args.marks.kinds.now) (expressions (map expression_of c.args.args.now)) c.args.state.now c.requires;
      place = refl;
    }

pub walk_args-walk_arg-requires : goal.walk_args-walk_arg-requires
walk_args-walk_arg-requires t c =
    let less = argument_smaller expression_of c.args.args.now c.all.arg-index c.arg-item.result c.all-test.true in
    let is : size (expression_of c.arg-item.result) ≤ expressions_size (expressions (map expression_of c.args.args.now)) = subst (λ e. size (expression_of e) ≤ expressions_size (expressions (map expression_of c.args.args.now))) (sym c.arg-item.is) less in
    (omega (arith, is, c.decreases), all_at (loans_in c.args.known.now.typed.now) (globals_in c.args.known.now.typed.now) c.args.known.now.exprs.now (lent_params c.args.known.now.typed.now.types c.args.marks.params.now c.args.marks.kinds.now) (lent_params c.args.known.now.typed.now.types c.all.left.params.now c.all.left.kinds.now) (expressions (map expression_of c.args.args.now)) (expressions (map expression_of (drop c.all.arg-index c.args.args.now))) (expressions (map expression_of (drop (c.all.arg-index + 1) c.args.args.now))) (expression_of c.arg-item.result) c.all.clear c.all.index c.args.state.now c.all.state (left_expressions expression_of c.args.args.now c.all.arg-index (c.all.arg-index + 1) c.arg-item.result refl c.all-test.true c.arg-item.is) c.all.invariant.left)

pub walk_args-all-preserved : goal.walk_args-all-preserved
walk_args-all-preserved t c =
    record {
      left = all_step (loans_in c.args.known.now.typed.now) (globals_in c.args.known.now.typed.now) c.args.known.now.exprs.now (lent_params c.args.known.now.typed.now.types c.args.marks.params.now c.args.marks.kinds.now) (lent_params c.args.known.now.typed.now.types c.all.left.params.now c.all.left.kinds.now) (lent_params c.args.known.now.typed.now.types c.behind-left.result.params.now c.behind-left.result.kinds.now) (expressions (map expression_of c.args.args.now)) (expressions (map expression_of (drop c.all.arg-index c.args.args.now))) (expressions (map expression_of (drop (c.all.arg-index + 1) c.args.args.now))) (expression_of c.arg-item.result) c.first-read.result c.all.clear c.all.index c.in_ok-clear.clear (c.all.index + 1) c.args.state.now c.all.state c.walk_arg.new.state (left_expressions expression_of c.args.args.now c.all.arg-index (c.all.arg-index + 1) c.arg-item.result refl c.all-test.true c.arg-item.is) c.first-read.ensures c.behind-left.ensures refl c.all.invariant.left c.in_ok-clear.ensures;
      place = ap (λ i. i + 1) c.all.invariant.place;
    }

pub walk_args-returns : goal.walk_args-returns
walk_args-returns t c =
    all_ended (loans_in c.args.known.now.typed.now) (globals_in c.args.known.now.typed.now) c.args.known.now.exprs.now (lent_params c.args.known.now.typed.now.types c.args.marks.params.now c.args.marks.kinds.now) (lent_params c.args.known.now.typed.now.types c.all.left.params.now c.all.left.kinds.now) (expressions (map expression_of c.args.args.now)) (expressions (map expression_of (drop c.all.arg-index c.args.args.now))) c.all.clear c.all.index c.args.state.now c.all.state (over_expressions expression_of c.args.args.now c.all.arg-index c.all-test.false) c.all.invariant.left

pub walk_arm-walk-requires : goal.walk_arm-walk-requires
walk_arm-walk-requires t c =
    let body : (branch_of c.args.arm.now).body ≡ expression_of c.args.arm.now.body = ap (λ a. a.body) (arm_is c.args.arm.now) in
    let less = ap size body in
    let types = c.args.known.now.typed.now.types in
    let cell : Walked (cell_flow types c.args.lent (branch_of c.args.arm.now).con (branch_of c.args.arm.now).cell) c.args.state.now.next 0 c.args.state.now c.check_cell.new.state = subst (λ a. Walked (cell_flow types c.args.lent a.con a.cell) c.args.state.now.next 0 c.args.state.now c.check_cell.new.state) (sym (arm_is c.args.arm.now)) c.in_ok-check_cell.ensures in
    (omega (arith, less, c.decreases), subst (λ x. AreAt c.args.known.now.exprs.now c.bind_arm.new.state.position (kinds_at (globals_in c.args.known.now.typed.now) c.bind_arm.new.state x)) body (arm_at (globals_in c.args.known.now.typed.now) c.args.known.now.exprs.now c.args.lent (branch_of c.args.arm.now) c.args.state.now c.check_cell.new.state c.bind_arm.new.state c.requires cell (record { scope = c.in_ok-bind_arm.ensures.scope; next = c.in_ok-bind_arm.ensures.next; spent = c.in_ok-bind_arm.ensures.spent; position = c.in_ok-bind_arm.ensures.position; fault = c.in_ok-bind_arm.ensures.fault })))

pub walk_arm-returns : goal.walk_arm-returns
walk_arm-returns t c =
    let body : (branch_of c.args.arm.now).body ≡ expression_of c.args.arm.now.body = ap (λ a. a.body) (arm_is c.args.arm.now) in
    let types = c.args.known.now.typed.now.types in
    let cell : Walked (cell_flow types c.args.lent (branch_of c.args.arm.now).con (branch_of c.args.arm.now).cell) c.args.state.now.next 0 c.args.state.now c.check_cell.new.state = subst (λ a. Walked (cell_flow types c.args.lent a.con a.cell) c.args.state.now.next 0 c.args.state.now c.check_cell.new.state) (sym (arm_is c.args.arm.now)) c.in_ok-check_cell.ensures in
    arm_walked (loans_in c.args.known.now.typed.now) (globals_in c.args.known.now.typed.now) c.args.lent (branch_of c.args.arm.now) c.len-len.result c.args.state.now c.check_cell.new.state c.bind_arm.new.state c.walk.new.state _ cell c.len-len.ensures (record { scope = c.in_ok-bind_arm.ensures.scope; next = c.in_ok-bind_arm.ensures.next; spent = c.in_ok-bind_arm.ensures.spent; position = c.in_ok-bind_arm.ensures.position; fault = c.in_ok-bind_arm.ensures.fault }) (subst (λ x. WalkedTerm (loans_in c.args.known.now.typed.now) (globals_in c.args.known.now.typed.now) x c.bind_arm.new.state c.walk.new.state) (sym body) c.in_ok-walk.ensures)
    (with_scope c.walk.new.state _ _ c.leave.ensures)

pub walk_arms-arms-preserved : goal.walk_arms-arms-preserved
walk_arms-arms-preserved t c =
    record {
      left = arms_step (loans_in c.args.known.now.typed.now) (globals_in c.args.known.now.typed.now) c.args.lent c.args.known.now.exprs.now (arms (map branch_of c.args.arms.now)) (arms (map branch_of (drop c.arms.arm-index c.args.arms.now))) (arms (map branch_of (drop (c.arms.arm-index + 1) c.args.arms.now))) (branch_of c.arm-item.result) c.arms.held c.hold.new.held c.len-start.result c.args.state.now c.arms.state c.walk_arm.new.state _ (left_arms branch_of c.args.arms.now c.arms.arm-index (c.arms.arm-index + 1) c.arm-item.result refl c.arms-test.true c.arm-item.is) c.arms.invariant.left c.in_ok-walk_arm.ensures c.len-start.ensures
          (with_spent c.walk_arm.new.state _ _ c.in_ok-hold.ensures.left) c.in_ok-hold.ensures.held;
    }

pub walk_parts-walk_match-requires : goal.walk_parts-walk_match-requires
walk_parts-walk_match-requires t c =
    let is : (expression_of c.args.expr.now) ≡ Match (expression_of c.in-Match.on.value) (arms (map branch_of c.in-Match.arms.items)) c.in-Match.line = ap expression_of c.in-Match.is ∙ match_is c.in-Match.on c.in-Match.arms c.in-Match.line in
    let on : expression_of c.deref-in-Match.result.now ≡ (expression_of c.in-Match.on.value) = ap expression_of c.deref-in-Match.ensures in
    let same : arms (map branch_of c.deref-in-Match-2.result.now) ≡ (arms (map branch_of c.in-Match.arms.items)) = ap (λ l. arms (map branch_of l)) c.deref-in-Match-2.ensures.value in
    let less = match_smaller (expression_of c.args.expr.now) (expression_of c.in-Match.on.value) (arms (map branch_of c.in-Match.arms.items)) c.in-Match.line is in
    let on_size = ap size on in
    let arms_size_is = ap arms_size same in
    let P : Expression → Arms → Type 0 = λ a b. AreAt c.args.known.now.exprs.now c.args.state.now.position (kinds_at (globals_in c.args.known.now.typed.now) c.args.state.now a ++ arms_kinds_at (globals_in c.args.known.now.typed.now) c.args.state.now b) in
    (omega (arith, less, on_size, arms_size_is, c.decreases), subst (λ a. P a (arms (map branch_of c.deref-in-Match-2.result.now))) (sym on) (subst (λ b. P (expression_of c.in-Match.on.value) b) (sym same) (match_at (globals_in c.args.known.now.typed.now) c.args.known.now.exprs.now c.args.state.now (expression_of c.args.expr.now) (expression_of c.in-Match.on.value) (arms (map branch_of c.in-Match.arms.items)) c.in-Match.line is c.requires.kinds)))

pub walk_parts-returns-in-Match : goal.walk_parts-returns-in-Match
walk_parts-returns-in-Match t c =
    let l = loans_in c.args.known.now.typed.now in
    let is : (expression_of c.args.expr.now) ≡ Match (expression_of c.in-Match.on.value) (arms (map branch_of c.in-Match.arms.items)) c.in-Match.line = ap expression_of c.in-Match.is ∙ match_is c.in-Match.on c.in-Match.arms c.in-Match.line in
    let on : expression_of c.deref-in-Match.result.now ≡ (expression_of c.in-Match.on.value) = ap expression_of c.deref-in-Match.ensures in
    let same : arms (map branch_of c.deref-in-Match-2.result.now) ≡ (arms (map branch_of c.in-Match.arms.items)) = ap (λ l. arms (map branch_of l)) c.deref-in-Match-2.ensures.value in
    match_whole l (globals_in c.args.known.now.typed.now) c.args.state.now c.walk_match.new.state (expression_of c.args.expr.now) (expression_of c.in-Match.on.value) (arms (map branch_of c.in-Match.arms.items)) c.in-Match.line c.walk_match.result is
    (subst (λ x. WalksParts l (globals_in c.args.known.now.typed.now) (Match x (arms (map branch_of c.in-Match.arms.items)) 0) c.args.state.now c.walk_match.result c.walk_match.new.state) on (subst (λ x. WalksParts l (globals_in c.args.known.now.typed.now) (Match (expression_of c.deref-in-Match.result.now) x 0) c.args.state.now c.walk_match.result c.walk_match.new.state) same c.walk_match.ensures))

pub walk_arg-returns-then-not-is_read : goal.walk_arg-returns-then-not-is_read
walk_arg-returns-then-not-is_read t c =
    argument_own (loans_in c.args.known.now.typed.now) (globals_in c.args.known.now.typed.now) c.args.read (expression_of c.args.arg.now) c.args.clear c.args.index c.args.state.now c.walk.new.state (sym c.is_read.ensures ∙ c.if-not-is_read.true) c.in_ok-walk.ensures

pub walk_arg-finish-requires : goal.walk_arg-finish-requires
walk_arg-finish-requires t c =
    argument_end (globals_in c.args.known.now.typed.now) c.args.known.now.exprs.now c.args.read (expression_of c.args.arg.now) c.args.state.now (sym c.is_read.ensures ∙ c.if-not-is_read.false) c.requires

pub walk_parts-returns-in_ok-walk_args-in-Build : goal.walk_parts-returns-in_ok-walk_args-in-Build
walk_parts-returns-in_ok-walk_args-in-Build t c =
    let l = loans_in c.args.known.now.typed.now in
    let g = globals_in c.args.known.now.typed.now in
    let types = c.args.known.now.typed.now.types in
    let build : BuildParts = c.in-Build.build.value in
    let es : Expressions = expressions (map expression_of build.args.items) in
    let is : expression_of c.args.expr.now ≡ Build build.con es build.place = ap expression_of c.in-Build.is ∙ build_is c.in-Build.build in
    let same : expressions (map expression_of c.deref-in-Build-2.result.now) ≡ es =
    ap (λ l. expressions (map expression_of l)) c.deref-in-Build-2.ensures.value ∙ ap (λ b. expressions (map expression_of b.args.items)) c.deref-in-Build.ensures in
    let args = plain_walked l g (lent_params types c.new.result.params.now c.new.result.kinds.now) (expressions (map expression_of c.deref-in-Build-2.result.now)) c.in_ok-walk_args-in-Build.field-0 c.args.state.now c.walk_args.new.state (ap (λ x. lent_params types x c.new.result.kinds.now) c.new.ensures.params) c.in_ok-walk_args-in-Build.ensures in
    build_walked l g c.args.state.now c.walk_args.new.state c.use_place.new.state (expression_of c.args.expr.now) build.con es build.place c.use_place.result is
    (subst (λ x. Walked (all_flow l g [] c.args.state.now.next c.args.state.now.scope x) (all_next types c.args.state.now.next x) (length (all_kinds_at g c.args.state.now x)) c.args.state.now c.walk_args.new.state) same args)
    (subst (λ b. Walks (place_flow types c.walk_args.new.state.scope b.place) c.walk_args.new.state.next 0 c.walk_args.new.state c.use_place.result c.use_place.new.state) c.deref-in-Build-3.ensures c.use_place.ensures)
