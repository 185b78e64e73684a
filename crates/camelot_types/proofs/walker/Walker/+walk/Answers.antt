use Rattle.std.proofs.Common.{◌≡◌, ◌≤◌, ◌+◌, map, drop, sym, ◌∙◌, subst, arith}
use Rattle.camelot_tree.specs.Tree.{expression_of, branch_of, expressions, arms}
use Rattle.camelot_tree.specs.Spine.{size, expressions_size, arms_size}
use Rattle.camelot_tree.specs.SpineLaws.{leaf_smaller, last_popped, front_popped, argument_smaller, arm_smaller}
use Rattle.camelot_types.specs.Tables.{globals_view}
use Rattle.camelot_types.specs.Working.{work_of}
use Rattle.camelot_types.specs.Solving.{Walked, Goes, Found, walk, rest_of, next_arm}
use Rattle.camelot_types.specs.Doing.{StopsWith}
use Rattle.camelot_types.proofs.Looping.{unwound_more, unwound_fails, args_here, args_none, args_more, args_fail, args_end, arms_here, arms_none, arms_more, arms_fail, arms_end}
use Rattle.camelot_types.proofs.walker.Walker.+walk.Goals as goal

pub expr-leaf-requires : goal.expr-leaf-requires
expr-leaf-requires t c = let less = leaf_smaller (expression_of c.in_ok-spine.spine.leaf.now) (expression_of c.args.expr.now) c.in_ok-spine.ensures.leaf in (omega (arith, less, c.decreases), c.in_ok-spine.ensures.is_leaf)

pub args-expr-requires : goal.args-expr-requires
args-expr-requires t c =
    let less = argument_smaller expression_of c.args.args.now c.args-2.arg-index c.arg-item.result c.args-2-test.true in
    let is : size (expression_of c.arg-item.result) ≤ expressions_size (expressions (map expression_of c.args.args.now)) = subst (λ e. size (expression_of e) ≤ expressions_size (expressions (map expression_of c.args.args.now))) (sym c.arg-item.is) less in
    (omega (arith, is, c.decreases), tt)

pub arms-next_arm-requires : goal.arms-next_arm-requires
arms-next_arm-requires t c =
    let less = arm_smaller branch_of c.args.arms.now c.arms.arm-index c.arm-item.result c.arms-test.true in
    let is : size (branch_of c.arm-item.result).body ≤ arms_size (arms (map branch_of c.args.arms.now)) = subst (λ e. size (branch_of e).body ≤ arms_size (arms (map branch_of c.args.arms.now))) (sym c.arm-item.is) less in
    (omega (arith, is, c.decreases), tt)

pub expr-rest-requires : goal.expr-rest-requires
expr-rest-requires t c =
    let few = last_popped (λ parent. expression_of parent.now) (size (expression_of c.args.expr.now)) c.up.parents.items c.pop.new.self.items c.in-Some.parent c.in-Some.ensures.items c.up.invariant.few in
    (omega (arith, few, c.decreases), tt)

pub expr-up-preserved : goal.expr-up-preserved
expr-up-preserved t c =
    let g = globals_view c.args.globals.now in
    let now : Found = record { work = work_of c.up.self; guess = c.up.guess } in
    let next : Walked Found = Goes (record { work = work_of c.rest.new.self; guess = c.in-Ok.next }) in
    record {
      whole = unwound_more (λ parent. expression_of parent.now) g c.args.self.now.scope c.up.parents.items c.pop.new.self.items c.in-Some.parent now next (walk g c.args.self.now.scope (work_of c.args.self.now) (expression_of c.args.expr.now))
          c.in-Some.ensures.items c.up.invariant.whole (subst (λ s. rest_of g s (expression_of c.in-Some.parent.now) now ≡ next) c.up.invariant.scope c.in-Ok.ensures.found);
      few = front_popped (λ parent. expression_of parent.now) (size (expression_of c.args.expr.now)) c.up.parents.items c.pop.new.self.items c.in-Some.parent c.in-Some.ensures.items c.up.invariant.few;
      scope = c.in-Ok.ensures.scope ∙ c.up.invariant.scope;
    }

pub expr-returns-in-Err-clause-found : goal.expr-returns-in-Err-clause-found
expr-returns-in-Err-clause-found t c =
    let g = globals_view c.args.globals.now in
    let now : Found = record { work = work_of c.up.self; guess = c.up.guess } in
    unwound_fails (λ parent. expression_of parent.now) g c.args.self.now.scope c.up.parents.items c.pop.new.self.items c.in-Some.parent now (walk g c.args.self.now.scope (work_of c.args.self.now) (expression_of c.args.expr.now)) c.in-Err.stop
    c.in-Some.ensures.items c.up.invariant.whole (subst (λ s. StopsWith (rest_of g s (expression_of c.in-Some.parent.now) now) c.in-Err.stop) c.up.invariant.scope c.in-Err.ensures.found)

pub args-args-2-preserved : goal.args-args-2-preserved
args-args-2-preserved t c =
    let g = globals_view c.args.globals.now in
    let all = expressions (map expression_of c.args.args.now) in
    let rest = expressions (map expression_of (drop (c.args-2.arg-index + 1) c.args.args.now)) in
    record {
      left = args_more g c.args.self.now.scope (work_of c.args.self.now) all (work_of c.args-2.self) (work_of c.expr.new.self) c.args-2.guesses.items c.push.new.self.items (expression_of c.arg-item.result) rest c.in-Ok.guess
          (args_here expression_of g c.args.self.now.scope (work_of c.args.self.now) all (work_of c.args-2.self) c.args-2.guesses.items c.args.args.now c.args-2.arg-index c.arg-item.result c.args-2-test.true c.arg-item.is c.args-2.invariant.left)
          (subst (λ s. walk g s (work_of c.args-2.self) (expression_of c.arg-item.result) ≡ Goes (record { work = work_of c.expr.new.self; guess = c.in-Ok.guess })) c.args-2.invariant.scope c.in-Ok.ensures.found)
          c.in_ok-push-in-Ok.ensures.items;
      scope = c.in-Ok.ensures.scope ∙ c.args-2.invariant.scope;
    }

pub args-returns-in-Err-clause-found : goal.args-returns-in-Err-clause-found
args-returns-in-Err-clause-found t c =
    let g = globals_view c.args.globals.now in
    let all = expressions (map expression_of c.args.args.now) in
    let rest = expressions (map expression_of (drop (c.args-2.arg-index + 1) c.args.args.now)) in
    args_fail g c.args.self.now.scope (work_of c.args.self.now) all (work_of c.args-2.self) c.args-2.guesses.items (expression_of c.arg-item.result) rest c.in-Err.stop
    (args_here expression_of g c.args.self.now.scope (work_of c.args.self.now) all (work_of c.args-2.self) c.args-2.guesses.items c.args.args.now c.args-2.arg-index c.arg-item.result c.args-2-test.true c.arg-item.is c.args-2.invariant.left)
    (subst (λ s. StopsWith (walk g s (work_of c.args-2.self) (expression_of c.arg-item.result)) c.in-Err.stop) c.args-2.invariant.scope c.in-Err.ensures.found)

pub args-returns-clause-found : goal.args-returns-clause-found
args-returns-clause-found t c =
    let g = globals_view c.args.globals.now in
    let all = expressions (map expression_of c.args.args.now) in
    args_end g c.args.self.now.scope (work_of c.args.self.now) all (work_of c.args-2.self) c.args-2.guesses.items
    (args_none expression_of g c.args.self.now.scope (work_of c.args.self.now) all (work_of c.args-2.self) c.args-2.guesses.items c.args.args.now c.args-2.arg-index (λ l. omega (arith, l, c.args-2-test.false)) c.args-2.invariant.left)

pub arms-arms-preserved : goal.arms-arms-preserved
arms-arms-preserved t c =
    let g = globals_view c.args.globals.now in
    let all = arms (map branch_of c.args.arms.now) in
    let rest = arms (map branch_of (drop (c.arms.arm-index + 1) c.args.arms.now)) in
    let arm = branch_of c.arm-item.result in
    record {
      left = arms_more g c.args.self.now.scope (work_of c.args.self.now) c.args.first.con c.args.first.guess all (work_of c.arms.self) (work_of c.next_arm.new.self) c.arms.numbers.items c.push-in-Ok.new.self.items arm.con arm.fields arm.cell arm.body rest c.in-Ok.found.con c.in-Ok.found.guess
          (arms_here branch_of g c.args.self.now.scope (work_of c.args.self.now) c.args.first.con c.args.first.guess all (work_of c.arms.self) c.arms.numbers.items c.args.arms.now c.arms.arm-index c.arm-item.result c.arms-test.true c.arm-item.is c.arms.invariant.left)
          (subst (λ ns. next_arm g c.args.self.now.scope (work_of c.arms.self) ns c.args.first.con c.args.first.guess arm.con arm.fields arm.cell arm.body ≡ Goes (record { work = work_of c.next_arm.new.self; con = c.in-Ok.found.con; guess = c.in-Ok.found.guess })) c.deref.ensures.value
          (subst (λ s. next_arm g s (work_of c.arms.self) c.deref.result.now c.args.first.con c.args.first.guess arm.con arm.fields arm.cell arm.body ≡ Goes (record { work = work_of c.next_arm.new.self; con = c.in-Ok.found.con; guess = c.in-Ok.found.guess })) c.arms.invariant.scope c.in-Ok.ensures.found))
          c.in_ok-push-in-Ok.ensures.items;
      scope = c.in-Ok.ensures.scope ∙ c.arms.invariant.scope;
    }

pub arms-returns-in-Err-clause-found : goal.arms-returns-in-Err-clause-found
arms-returns-in-Err-clause-found t c =
    let g = globals_view c.args.globals.now in
    let all = arms (map branch_of c.args.arms.now) in
    let rest = arms (map branch_of (drop (c.arms.arm-index + 1) c.args.arms.now)) in
    let arm = branch_of c.arm-item.result in
    arms_fail g c.args.self.now.scope (work_of c.args.self.now) c.args.first.con c.args.first.guess all (work_of c.arms.self) c.arms.numbers.items arm.con arm.fields arm.cell arm.body rest c.in-Err.stop
    (arms_here branch_of g c.args.self.now.scope (work_of c.args.self.now) c.args.first.con c.args.first.guess all (work_of c.arms.self) c.arms.numbers.items c.args.arms.now c.arms.arm-index c.arm-item.result c.arms-test.true c.arm-item.is c.arms.invariant.left)
    (subst (λ ns. StopsWith (next_arm g c.args.self.now.scope (work_of c.arms.self) ns c.args.first.con c.args.first.guess arm.con arm.fields arm.cell arm.body) c.in-Err.stop) c.deref.ensures.value
    (subst (λ s. StopsWith (next_arm g s (work_of c.arms.self) c.deref.result.now c.args.first.con c.args.first.guess arm.con arm.fields arm.cell arm.body) c.in-Err.stop) c.arms.invariant.scope c.in-Err.ensures.found))

pub arms-returns-clause-found : goal.arms-returns-clause-found
arms-returns-clause-found t c =
    let g = globals_view c.args.globals.now in
    let all = arms (map branch_of c.args.arms.now) in
    arms_end g c.args.self.now.scope (work_of c.args.self.now) c.args.first.con c.args.first.guess all (work_of c.arms.self) c.arms.numbers.items
    (arms_none branch_of g c.args.self.now.scope (work_of c.args.self.now) c.args.first.con c.args.first.guess all (work_of c.arms.self) c.arms.numbers.items c.args.arms.now c.arms.arm-index (λ l. omega (arith, l, c.arms-test.false)) c.arms.invariant.left)
