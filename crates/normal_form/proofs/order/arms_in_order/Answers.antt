use Rattle.std.proofs.Common.{map, ap, ◌∙◌}
use Rattle.std.specs.Option.{option_map}
use Rattle.camelot_tree.specs.Tree.{branch_of, arms}
use Rattle.normal_form.specs.Normal.{arm_for, cons_of}
use Rattle.normal_form.specs.Tables.{source_in, cons_by}
use Rattle.normal_form.proofs.Naming.{cons_same, all_placed}
use Rattle.normal_form.proofs.order.arms_in_order.Goals as goal

pub returns : goal.returns
returns c =
    let p = source_in c.args.known.now.typed.now in
    let as' = arms (map branch_of c.args.arms.now) in
    all_placed (arm_for p as') (map (option_map (λ a. branch_of a.now)) c.cons.order.items) c.deref-con-items.result.now (cons_of p as') c.cons.con-index c.cons.invariant c.cons-test.false
    (c.deref-con-items.ensures.value ∙ c.in_ok-cons.ensures ∙ ap (cons_by c.args.known.now.typed.now.types) (c.deref.ensures.value ∙ c.in_ok-numbers.ensures.numbers)
    ∙ cons_same p c.args.known.now.typed.now.types c.args.arms.now c.args.known.now.typed.now.its_types)
