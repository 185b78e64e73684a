use Rattle.std.proofs.Common.{◌≡◌, ◌++◌, drop}
use Rattle.camelot_tree.proofs.copy.copy_names.Given as goal

abbrev pub invariant-names : goal.invariant-names
invariant-names l = l.copy.items ++ drop l.name-index l.names ≡ l.names
