use Rattle.std.proofs.Common.{◌≡◌, drop}
use Rattle.std.specs.List.{list_all}
use Rattle.value_text.specs.Finite.{has_value}
use Rattle.value_text.proofs.finite.is_ready.Given as goal

abbrev pub invariant-fields : goal.invariant-fields
invariant-fields l = list_all (has_value l.marks) (drop l.kind-index l.con.fields.items) ≡ list_all (has_value l.marks) l.con.fields.items
