use Rattle.std.proofs.Common.{◌≡◌, map}
use Rattle.camelot_tree.specs.Tree.{branch_of, arms}
use Rattle.camelot_tree.specs.Meaning.{constructor_number}
use Rattle.normal_form.specs.Normal.{arm_for}
use Rattle.normal_form.specs.Tables.{source_in}
use Rattle.normal_form.proofs.order.arm_of.Given as goal

abbrev pub invariant-arms : goal.invariant-arms
invariant-arms l = record {
  rest : arm_for (source_in l.known.typed.now) (arms (map branch_of l.arm-iterator.a.rest.now)) l.con ≡ arm_for (source_in l.known.typed.now) (arms (map branch_of l.fn.arms)) l.con;
  numbers : l.arm-iterator.b.rest.now ≡ map (λ a. constructor_number (source_in l.known.typed.now) (branch_of a).con) l.arm-iterator.a.rest.now;
}
