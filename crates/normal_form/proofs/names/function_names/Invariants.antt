use Rattle.std.proofs.Common.{◌≡◌, [], drop, map}
use Rattle.camelot_tree.specs.Tree.{function_of}
use Rattle.linear_use.specs.Tables.{with_names}
use Rattle.normal_form.proofs.names.function_names.Given as goal

abbrev pub invariant-funs : goal.invariant-funs
invariant-funs l = with_names l.names (map (λ f. f.name.word) (map function_of (drop l.decl-index l.decl-items))) ≡ with_names [] (map (λ f. f.name.word) (map function_of l.decl-items))
