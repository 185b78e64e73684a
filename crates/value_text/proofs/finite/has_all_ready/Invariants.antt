use Rattle.std.proofs.Common.{◌≡◌, drop, map}
use Rattle.std.specs.List.{list_all}
use Rattle.camelot_values.specs.Kinds.{constructor_of}
use Rattle.value_text.specs.Finite.{is_ready}
use Rattle.value_text.proofs.finite.has_all_ready.Given as goal

abbrev pub invariant-cons : goal.invariant-cons
invariant-cons l = list_all (is_ready l.marks) (map constructor_of (drop l.con-index l.con-items)) ≡ list_all (is_ready l.marks) (map constructor_of l.con-items)
