use Rattle.std.proofs.Common.{◌≡◌, ◌++◌, drop}
use Rattle.camelot_tree.proofs.copy.copy_atoms.Given as goal

abbrev pub invariant-atoms : goal.invariant-atoms
invariant-atoms l = l.copy.items ++ drop l.atom-index l.atoms ≡ l.atoms
