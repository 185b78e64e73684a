use Rattle.std.proofs.Common.{◌≡◌, ◌++◌, drop, map}
use Rattle.camelot_tree.specs.Tree.{function_of}
use Rattle.camelot_tree.proofs.copy.copy_funs.Given as goal

abbrev pub invariant-decls : goal.invariant-decls
invariant-decls l = map function_of l.copy.items ++ map function_of (drop l.decl-index l.decls) ≡ map function_of l.decls
