use Rattle.std.proofs.Common.{◌≡◌, ◌++◌, drop, map}
use Rattle.camelot_values.specs.Kinds.{data_type_of}
use Rattle.normal_form.proofs.copying.copy_types.Given as goal

abbrev pub invariant-defs : goal.invariant-defs
invariant-defs l = map data_type_of l.defs.items ++ map data_type_of (drop l.def-index l.def-items) ≡ map data_type_of l.def-items
