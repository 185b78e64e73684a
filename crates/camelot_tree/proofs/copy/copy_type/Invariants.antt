use Rattle.std.proofs.Common.{◌≡◌, ◌++◌, drop, map}
use Rattle.camelot_tree.specs.Tree.{constructor_of}
use Rattle.camelot_tree.proofs.copy.copy_type.Given as goal

abbrev pub invariant-cons : goal.invariant-cons
invariant-cons l = map constructor_of l.cons.items ++ map constructor_of (drop l.con-index l.decl.cons.items) ≡ map constructor_of l.decl.cons.items
