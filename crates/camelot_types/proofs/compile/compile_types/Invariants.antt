use Rattle.std.proofs.Common.{◌≡◌, ◌++◌, drop, map}
use Rattle.camelot_values.specs.Kinds as values
use Rattle.camelot_tree.specs.Tree as tree
use Rattle.camelot_tree.specs.Programs.{program_of}
use Rattle.camelot_typing.specs.Kinds.{data_kinds}
use Rattle.camelot_types.proofs.compile.compile_types.Given as goal

abbrev pub invariant-types : goal.invariant-types
invariant-types l = map values.data_type_of l.defs.items ++ map (data_kinds (program_of l.program)) (map tree.data_type_of (drop l.decl-index l.program.types.items)) ≡ map (data_kinds (program_of l.program)) (map tree.data_type_of l.program.types.items)
