use Rattle.std.proofs.Common.{◌≡◌, ◌++◌, drop}
use Rattle.camelot_tree.proofs.copy.copy_fun.Given as goal

abbrev pub invariant-params : goal.invariant-params
invariant-params l = l.params.items ++ drop l.param-index l.decl.params.items ≡ l.decl.params.items
