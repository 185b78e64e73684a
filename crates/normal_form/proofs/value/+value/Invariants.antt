use Rattle.std.proofs.Common.{◌≡◌, ◌+◌, ◌*◌, drop, map, length}
use Rattle.std.specs.Option.{option_map}
use Rattle.camelot_tree.specs.Tree.{expression_of, branch_of, expressions, arms}
use Rattle.camelot_tree.specs.Spine.{size, expressions_size, arms_size}
use Rattle.camelot_tree.specs.SpineLaws.{NoLarger}
use Rattle.normal_form.specs.Tables.{source_in}
use Rattle.normal_form.specs.Counts.{over, branch_made, branch_ends}
use Rattle.normal_form.specs.Parts.{piece_of, pieces_of, arms_of, values_piece, arms_and, arms_piece}
use Rattle.normal_form.proofs.Climbing.{Climbed}
use Rattle.normal_form.proofs.Naming.{body_size}
use Rattle.normal_form.proofs.Parts.{args_then}
use Rattle.normal_form.proofs.value.+value.Given as goal

abbrev pub invariant-value-up : goal.invariant-value-up
invariant-value-up l =
    let ps = map (λ parent. expression_of parent.now) l.parents.items in
    record {
      climbed : Climbed (source_in l.known.typed.now) l.fn.scope l.at.next l.at.number (expression_of l.expr) ps (piece_of l.part);
      scope : l.scope ≡ l.fn.scope;
      few : NoLarger (size (expression_of l.expr)) ps;
    }

abbrev pub decreases-value-up : goal.decreases-value-up
decreases-value-up l = length l.parents.items

abbrev pub invariant-value_args-args-2 : goal.invariant-value_args-args-2
invariant-value_args-args-2 l =
    let p = source_in l.known.typed.now in
    record {
      whole : args_then (pieces_of l.all) (values_piece p l.fn.scope l.all.end.next l.all.end.number (expressions (map expression_of (drop l.arg-index l.args)))) ≡ values_piece p l.fn.scope l.fn.at.next l.fn.at.number (expressions (map expression_of l.args));
      scope : l.scope ≡ l.fn.scope;
    }

abbrev pub invariant-value_arms-arms : goal.invariant-value_arms-arms
invariant-value_arms-arms l =
    let p = source_in l.known.typed.now in
    let rest = map (option_map (λ a. branch_of a.now)) (drop l.arm-index l.arm-items) in
    let all = map (option_map (λ a. branch_of a.now)) l.arm-items in
    record {
      whole : arms_and p l.fn.scope (arms_of l.all) rest ≡ arms_piece p l.fn.scope l.fn.at.next l.fn.at.number (arms (map branch_of l.arms));
      scope : l.scope ≡ l.fn.scope;
      locals : l.all.end.next + over (branch_made p) rest ≡ l.fn.at.next + over (branch_made p) all;
      blocks : l.all.end.number + over (branch_ends p) rest ≡ l.fn.at.number + over (branch_ends p) all;
    }

-- ranks: an expression, a leaf or a parent, and what stands below these
abbrev pub decreases-value : goal.decreases-value
decreases-value l = 8 * size (expression_of l.expr.now) + 2

abbrev pub decreases-value_leaf : goal.decreases-value_leaf
decreases-value_leaf l = 8 * size (expression_of l.expr.now) + 1

abbrev pub decreases-value_around : goal.decreases-value_around
decreases-value_around l = 8 * size (expression_of l.parent.now) + 1

abbrev pub decreases-value_behind : goal.decreases-value_behind
decreases-value_behind l = 8 * size (expression_of l.expr.now) + 3

abbrev pub decreases-value_branches : goal.decreases-value_branches
decreases-value_branches l = 8 * (size (expression_of l.yes.now) + size (expression_of l.no.now)) + 3

abbrev pub decreases-value_build : goal.decreases-value_build
decreases-value_build l = 8 * expressions_size (expressions (map expression_of l.build.now.args.items)) + 4

abbrev pub decreases-value_call : goal.decreases-value_call
decreases-value_call l = 8 * expressions_size (expressions (map expression_of l.call.now.args.items)) + 4

abbrev pub decreases-value_let : goal.decreases-value_let
decreases-value_let l = 8 * (size (expression_of l.value_of.now) + size (expression_of l.body.now)) + 3

abbrev pub decreases-value_args : goal.decreases-value_args
decreases-value_args l = 8 * expressions_size (expressions (map expression_of l.args.now)) + 3

abbrev pub decreases-value_match : goal.decreases-value_match
decreases-value_match l = 8 * (size (expression_of l.on.now) + arms_size (arms (map branch_of l.arms.now))) + 5

abbrev pub decreases-value_arm : goal.decreases-value_arm
decreases-value_arm l = 8 * body_size (option_map (λ a. branch_of a.now) l.arm) + 3

abbrev pub decreases-value_arms : goal.decreases-value_arms
decreases-value_arms l = 8 * arms_size (arms (map branch_of l.arms.now)) + 4
