use Rattle.std.proofs.Common.{◌≡◌, ◌++◌, drop, map}
use Rattle.std.specs.Option.{option_map}
use Rattle.camelot_tree.specs.Tree.{branch_of, arms}
use Rattle.normal_form.specs.Normal.{arm_for}
use Rattle.normal_form.specs.Tables.{source_in}
use Rattle.normal_form.proofs.order.arms_in_order.Given as goal

abbrev pub invariant-cons : goal.invariant-cons
invariant-cons l =
    let p = source_in l.known.typed.now in
    map (option_map (λ a. branch_of a.now)) l.order.items ++ map (arm_for p (arms (map branch_of l.arms))) (drop l.con-index l.con-items) ≡ map (arm_for p (arms (map branch_of l.arms))) l.con-items
