use Rattle.std.proofs.Common.{◌≡◌, drop}
use Rattle.std.specs.List.{list_all}
use Rattle.value_text.specs.Finite.{has_value}
use Rattle.value_text.proofs.asking.all_have_values.Given as goal

abbrev pub invariant-kinds : goal.invariant-kinds
invariant-kinds l = list_all (has_value l.marks) (drop l.kind-index l.kinds) ≡ list_all (has_value l.marks) l.kinds
