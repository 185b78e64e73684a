use Rattle.std.proofs.Common.{◌≡◌, ◌++◌, drop, map}
use Rattle.camelot_tree.specs.Tree.{data_type_of}
use Rattle.camelot_tree.proofs.copy.copy_types.Given as goal

abbrev pub invariant-decls : goal.invariant-decls
invariant-decls l = map data_type_of l.copy.items ++ map data_type_of (drop l.decl-index l.decls) ≡ map data_type_of l.decls
