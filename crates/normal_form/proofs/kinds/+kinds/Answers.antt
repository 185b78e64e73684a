use Rattle.std.proofs.Common.{◌≡◌, ◌≤◌, ◌++◌, [], ◌∷◌, drop, map, sym, ap, ◌∙◌, subst, arith}
use Rattle.std.specs.Prelude.{IfOk}
use Rattle.std.specs.Option.{option_map}
use Rattle.camelot_tree.specs.Tree.{expression_of, branch_of, expressions, arms, Expressions, Build}
use Rattle.camelot_tree.specs.Spine.{size, expressions_size}
use Rattle.camelot_tree.specs.SpineLaws.{front_popped, last_popped, none_larger, leaf_smaller, argument_smaller}
use Rattle.camelot_tree.specs.declared.tree.Build.{Build as BuildParts}
use Rattle.normal_form.specs.Normal.{cons_of, kind_in, all_kinds}
use Rattle.normal_form.specs.KindParts.{PlainKinds, kind_of_build, kinds_of, kinds_piece, arms_kinds}
use Rattle.normal_form.specs.Parts.{first_part}
use Rattle.normal_form.specs.Tables.{source_in, signatures_in}
use Rattle.normal_form.proofs.KindClimbing.{kinds_begun, kinds_parent, kinds_on, arms_told, arm_kinds_left, build_kind_same, kinds_are, all_ended, first_ended}
use Rattle.normal_form.proofs.Naming.{ordered_smaller, dropped_all}
use Rattle.normal_form.proofs.Rooms.{on_ok}
use Rattle.normal_form.proofs.Trees.{build_is}
use Rattle.normal_form.proofs.kinds.+kinds.Goals as goal

pub kinds-leaf_kinds-requires : goal.kinds-leaf_kinds-requires
kinds-leaf_kinds-requires t c =
    let less = leaf_smaller (expression_of c.in_ok-spine.spine.leaf.now) (expression_of c.args.expr.now) c.in_ok-spine.ensures.leaf in
    (omega (arith, less, c.decreases), c.in_ok-spine.ensures.is_leaf)

pub kinds-up-init : goal.kinds-up-init
kinds-up-init t c = record {
  climbed = kinds_begun (source_in c.args.known.now.typed.now) (signatures_in c.args.known.now.typed.now) c.args.scope.now (expression_of c.args.expr.now) (expression_of c.in_ok-spine.spine.leaf.now) (map (λ parent. expression_of parent.now) c.in_ok-spine.spine.parents.items) (kinds_of c.in_ok-all.all) c.in_ok-spine.ensures.parents c.in_ok-spine.ensures.leaf c.in_ok-all.ensures.kinds;
  scope = c.in_ok-all.ensures.scope;
  few = none_larger (map (λ parent. expression_of parent.now) c.in_ok-spine.spine.parents.items) (expression_of c.args.expr.now) c.in_ok-spine.ensures.parents;
}

pub kinds-kinds_around-requires : goal.kinds-kinds_around-requires
kinds-kinds_around-requires t c =
    let p = source_in c.args.known.now.typed.now in
    let sigs = signatures_in c.args.known.now.typed.now in
    let few = last_popped (λ parent. expression_of parent.now) (size (expression_of c.args.expr.now)) c.up.parents.items c.pop.new.self.items c.in-Some.parent c.in-Some.ensures.items c.up.invariant.few in
    let parent = kinds_parent (λ parent. expression_of parent.now) p sigs c.args.scope.now (expression_of c.args.expr.now) c.up.parents.items c.pop.new.self.items c.in-Some.parent (kinds_of c.up.all) c.in-Some.ensures.items c.up.invariant.climbed in
    (omega (arith, few, c.decreases), parent.first ∙ ap (λ s. kinds_piece p sigs s (first_part (expression_of c.in-Some.parent.now))) (sym c.up.invariant.scope))

pub kinds-up-preserved : goal.kinds-up-preserved
kinds-up-preserved t c =
    let p = source_in c.args.known.now.typed.now in
    let sigs = signatures_in c.args.known.now.typed.now in
    let parent = kinds_parent (λ parent. expression_of parent.now) p sigs c.args.scope.now (expression_of c.args.expr.now) c.up.parents.items c.pop.new.self.items c.in-Some.parent (kinds_of c.up.all) c.in-Some.ensures.items c.up.invariant.climbed in
    record {
      climbed = kinds_on p sigs c.args.scope.now (expression_of c.args.expr.now) (expression_of c.in-Some.parent.now) (map (λ parent. expression_of parent.now) c.pop.new.self.items) (kinds_of c.up.all) (kinds_of c.in_ok-all-2.all) parent
          (c.in_ok-all-2.ensures.kinds ∙ ap (λ s. kinds_piece p sigs s (expression_of c.in-Some.parent.now)) c.up.invariant.scope);
      scope = c.in_ok-all-2.ensures.scope ∙ c.up.invariant.scope;
      few = front_popped (λ parent. expression_of parent.now) (size (expression_of c.args.expr.now)) c.up.parents.items c.pop.new.self.items c.in-Some.parent c.in-Some.ensures.items c.up.invariant.few;
    }

pub args_kinds-kinds-requires : goal.args_kinds-kinds-requires
args_kinds-kinds-requires t c =
    let less = argument_smaller expression_of c.args.args.now c.args-2.arg-index c.arg-item.result c.args-2-test.true in
    let is : size (expression_of c.arg-item.result) ≤ expressions_size (expressions (map expression_of c.args.args.now)) = subst (λ e. size (expression_of e) ≤ expressions_size (expressions (map expression_of c.args.args.now))) (sym c.arg-item.is) less in
    (omega (arith, is, c.decreases), tt)

pub arm_kinds-returns-clause-scope : goal.arm_kinds-returns-clause-scope
arm_kinds-returns-clause-scope t c =
    on_ok c.following.result (c.leave.new.self ≡ c.args.scope.now)
    (arm_kinds_left (source_in c.args.known.now.typed.now) (branch_of c.in-Some.arm.now) c.args.scope.now c.len-len.result c.bind_arm_kinds.new.scope c.kinds.new.scope c.leave.new.self c.len-len.ensures c.in_ok-bind_arm_kinds.ensures c.in_ok-body.ensures.scope c.leave.ensures)

pub all_arm_kinds-arm_kinds-requires : goal.all_arm_kinds-arm_kinds-requires
all_arm_kinds-arm_kinds-requires t c =
    let p = source_in c.args.known.now.typed.now in
    let as' = arms (map branch_of c.args.arms.now) in
    let f = option_map (λ a. branch_of a.now) in
    let less = ordered_smaller f p as' c.deref-arm-items.result.now (cons_of p as') c.arms.arm-index c.arm-item.result (ap (map f) c.deref-arm-items.ensures.value ∙ c.in_ok-order.ensures) c.arms-test.true c.arm-item.is in
    (omega (arith, less, c.decreases), tt)

pub all_arm_kinds-returns-clause-kinds : goal.all_arm_kinds-returns-clause-kinds
all_arm_kinds-returns-clause-kinds t c =
    let p = source_in c.args.known.now.typed.now in
    let sigs = signatures_in c.args.known.now.typed.now in
    let as' = arms (map branch_of c.args.arms.now) in
    let f = option_map (λ a. branch_of a.now) in
    let rest = map f (drop c.arms.arm-index c.deref-arm-items.result.now) in
    let all = map f c.deref-arm-items.result.now in
    let none = ap (map f) (dropped_all c.deref-arm-items.result.now c.arms.arm-index c.arms-test.false) in
    kinds_are _ _ _ _ (all_ended p sigs c.args.scope.now c.arms.all.items rest all none c.arms.invariant.whole) (c.unwrap_or.ensures ∙ first_ended p sigs c.args.scope.now c.arms.kind rest all none c.arms.invariant.first)
    ∙ arms_told p sigs c.args.scope.now as' all (ap (map f) c.deref-arm-items.ensures.value ∙ c.in_ok-order.ensures)

pub leaf_kinds-returns-in_ok-args-in-Build-clause-kinds : goal.leaf_kinds-returns-in_ok-args-in-Build-clause-kinds
leaf_kinds-returns-in_ok-args-in-Build-clause-kinds t c =
    let p = source_in c.args.known.now.typed.now in
    let sigs = signatures_in c.args.known.now.typed.now in
    let s = c.args.scope.now in
    let build : BuildParts = c.in-Build.build.value in
    let es : Expressions = expressions (map expression_of build.args.items) in
    let is : expression_of c.args.expr.now ≡ Build build.con es build.place = ap expression_of c.in-Build.is ∙ build_is c.in-Build.build in
    let same : expressions (map expression_of c.deref-in-Build.result.now) ≡ es =
    ap (λ l. expressions (map expression_of l)) c.deref-in-Build.ensures.value ∙ ap (λ (b : BuildParts). expressions (map expression_of b.args.items)) c.deref.ensures in
    let kind_is = c.build_kind.ensures ∙ ap (λ (b : BuildParts). kind_of_build p b.con) c.deref-in-Build-2.ensures ∙ build_kind_same p sigs s build.con es build.place in
    subst (λ (q : PlainKinds). IfOk c.ending-in-Build.result (λ all. kinds_of all ≡ q))
    (kinds_are (c.in_ok-args-in-Build.args.items ++ c.build_kind.result ∷ []) (all_kinds p sigs s es ++ kind_in p sigs s (Build build.con es build.place) ∷ []) c.build_kind.result (kind_in p sigs s (Build build.con es build.place))
    (ap (λ l. l ++ c.build_kind.result ∷ []) (c.in_ok-args-in-Build.ensures.kinds ∙ ap (all_kinds p sigs s) same) ∙ ap (λ k. all_kinds p sigs s es ++ k ∷ []) kind_is) kind_is
    ∙ ap (kinds_piece p sigs s) (sym is)) c.ending-in-Build.ensures

pub match_kinds-returns-clause-kinds : goal.match_kinds-returns-clause-kinds
match_kinds-returns-clause-kinds t c =
    let p = source_in c.args.known.now.typed.now in
    let sigs = signatures_in c.args.known.now.typed.now in
    let as' = arms (map branch_of c.args.arms.now) in
    let e = expression_of c.args.on.now in
    let joined = λ (a b : PlainKinds). let q : PlainKinds = record { kinds = a.kinds ++ b.kind ∷ b.kinds; kind = b.kind } in q in
    subst (λ (q : PlainKinds). IfOk c.branching.result (λ all. kinds_of all ≡ q))
    (ap (joined (kinds_of c.in_ok-on.on)) (c.in_ok-branches.ensures.kinds ∙ ap (λ s. arms_kinds p sigs s as') c.in_ok-on.ensures.scope) ∙ ap (λ a. joined a (arms_kinds p sigs c.args.scope.now as')) c.in_ok-on.ensures.kinds) c.branching.ensures
