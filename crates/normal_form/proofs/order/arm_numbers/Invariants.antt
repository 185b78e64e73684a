use Rattle.std.proofs.Common.{◌≡◌, ◌<◌, ◌++◌, drop, map}
use Rattle.std.specs.Prelude.{IfSome}
use Rattle.std.specs.List.{AllByRecursion}
use Rattle.camelot_tree.specs.Tree.{branch_of}
use Rattle.camelot_tree.specs.Meaning.{constructor_number}
use Rattle.normal_form.specs.Tables.{source_in}
use Rattle.normal_form.proofs.order.arm_numbers.Given as goal

abbrev pub invariant-arms : goal.invariant-arms
invariant-arms l = record {
  done : l.numbers.items ++ map (λ a. constructor_number (source_in l.known.typed.now) (branch_of a).con) (drop l.arm-index l.arms) ≡ map (λ a. constructor_number (source_in l.known.typed.now) (branch_of a).con) l.arms;
  within : AllByRecursion (λ o. IfSome o (λ i. i < 4096)) l.numbers.items;
}
