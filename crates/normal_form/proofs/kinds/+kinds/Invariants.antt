use Rattle.std.proofs.Common.{◌≡◌, ◌+◌, ◌*◌, ◌++◌, drop, map, length, None}
use Rattle.std.specs.Option.{option_map}
use Rattle.camelot_tree.specs.Tree.{expression_of, branch_of, expressions, arms}
use Rattle.camelot_tree.specs.Spine.{size, expressions_size, arms_size}
use Rattle.camelot_tree.specs.SpineLaws.{NoLarger}
use Rattle.normal_form.specs.Normal.{all_kinds}
use Rattle.normal_form.specs.Tables.{source_in, signatures_in}
use Rattle.normal_form.specs.KindParts.{kinds_of, all_branches, first_kind}
use Rattle.normal_form.proofs.KindClimbing.{KindsClimbed}
use Rattle.normal_form.proofs.Naming.{body_size}
use Rattle.normal_form.proofs.kinds.+kinds.Given as goal

abbrev pub invariant-kinds-up : goal.invariant-kinds-up
invariant-kinds-up l =
    let ps = map (λ parent. expression_of parent.now) l.parents.items in
    record {
      climbed : KindsClimbed (source_in l.known.typed.now) (signatures_in l.known.typed.now) l.fn.scope (expression_of l.expr) ps (kinds_of l.all);
      scope : l.scope ≡ l.fn.scope;
      few : NoLarger (size (expression_of l.expr)) ps;
    }

abbrev pub decreases-kinds-up : goal.decreases-kinds-up
decreases-kinds-up l = length l.parents.items

abbrev pub invariant-args_kinds-args-2 : goal.invariant-args_kinds-args-2
invariant-args_kinds-args-2 l =
    let p = source_in l.known.typed.now in
    let sigs = signatures_in l.known.typed.now in
    record {
      whole : l.all.items ++ all_kinds p sigs l.fn.scope (expressions (map expression_of (drop l.arg-index l.args))) ≡ all_kinds p sigs l.fn.scope (expressions (map expression_of l.args));
      scope : l.scope ≡ l.fn.scope;
    }

abbrev pub invariant-all_arm_kinds-arms : goal.invariant-all_arm_kinds-arms
invariant-all_arm_kinds-arms l =
    let p = source_in l.known.typed.now in
    let sigs = signatures_in l.known.typed.now in
    let rest = map (option_map (λ a. branch_of a.now)) (drop l.arm-index l.arm-items) in
    let all = map (option_map (λ a. branch_of a.now)) l.arm-items in
    record {
      whole : l.all.items ++ all_branches p sigs l.fn.scope rest ≡ all_branches p sigs l.fn.scope all;
      first : first_kind p sigs l.fn.scope l.kind rest ≡ first_kind p sigs l.fn.scope None all;
      scope : l.scope ≡ l.fn.scope;
    }

-- ranks: an expression, a leaf or a parent, and what stands below these
abbrev pub decreases-kinds : goal.decreases-kinds
decreases-kinds l = 8 * size (expression_of l.expr.now) + 2

abbrev pub decreases-leaf_kinds : goal.decreases-leaf_kinds
decreases-leaf_kinds l = 8 * size (expression_of l.expr.now) + 1

abbrev pub decreases-kinds_around : goal.decreases-kinds_around
decreases-kinds_around l = 8 * size (expression_of l.parent.now) + 1

abbrev pub decreases-kinds_behind : goal.decreases-kinds_behind
decreases-kinds_behind l = 8 * size (expression_of l.expr.now) + 3

abbrev pub decreases-let_kinds : goal.decreases-let_kinds
decreases-let_kinds l = 8 * (size (expression_of l.value.now) + size (expression_of l.body.now)) + 3

abbrev pub decreases-args_kinds : goal.decreases-args_kinds
decreases-args_kinds l = 8 * expressions_size (expressions (map expression_of l.args.now)) + 3

abbrev pub decreases-match_kinds : goal.decreases-match_kinds
decreases-match_kinds l = 8 * (size (expression_of l.on.now) + arms_size (arms (map branch_of l.arms.now))) + 5

abbrev pub decreases-arm_kinds : goal.decreases-arm_kinds
decreases-arm_kinds l = 8 * body_size (option_map (λ a. branch_of a.now) l.arm) + 3

abbrev pub decreases-all_arm_kinds : goal.decreases-all_arm_kinds
decreases-all_arm_kinds l = 8 * arms_size (arms (map branch_of l.arms.now)) + 4
