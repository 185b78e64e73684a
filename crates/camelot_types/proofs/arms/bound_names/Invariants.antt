use Rattle.std.proofs.Common.{◌≡◌, ◌++◌, drop, map}
use Rattle.camelot_typing.specs.Kinds.{bound_names}
use Rattle.camelot_types.proofs.arms.bound_names.Given as goal

abbrev pub invariant-fields : goal.invariant-fields
invariant-fields l = map (λ n. n.now) l.names.items ++ bound_names (drop l.field-index l.fields) l.cell ≡ bound_names l.fields l.cell
