use Rattle.std.proofs.Common.{◌≡◌, drop, map}
use Rattle.linear_use.specs.Tables.{with_names}
use Rattle.linear_use.proofs.names.add_functions.Given as goal

abbrev pub invariant-decls : goal.invariant-decls
invariant-decls l = with_names l.names (map (λ f. f.name.word) (drop l.decl-index l.funs)) ≡ with_names l.initial.names (map (λ f. f.name.word) l.funs)
