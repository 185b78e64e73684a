use Rattle.std.proofs.Common.{◌≡◌, ◌++◌, drop, map}
use Rattle.camelot_values.specs.Kinds as values
use Rattle.camelot_tree.specs.Tree as tree
use Rattle.camelot_tree.specs.Programs.{program_of}
use Rattle.camelot_typing.specs.Kinds.{constructor_kinds}
use Rattle.camelot_types.proofs.compile.compile_type.Given as goal

abbrev pub invariant-cons : goal.invariant-cons
invariant-cons l = map values.constructor_of l.cons.items ++ map (constructor_kinds (program_of l.program)) (map tree.constructor_of (drop l.con-index l.decl.cons.items)) ≡ map (constructor_kinds (program_of l.program)) (map tree.constructor_of l.decl.cons.items)
