use Rattle.std.proofs.Common.{◌≡◌, ◌++◌, drop, map}
use Rattle.camelot_tree.specs.Programs.{program_of}
use Rattle.camelot_typing.specs.Kinds.{field_kind}
use Rattle.camelot_types.proofs.compile.field_kinds.Given as goal

abbrev pub invariant-fields : goal.invariant-fields
invariant-fields l = l.kinds.items ++ map (field_kind (program_of l.program)) (drop l.field-index l.fields) ≡ map (field_kind (program_of l.program)) l.fields
