use Rattle.std.proofs.Common.{[], map, sym, ap, ◌∙◌}
use Rattle.camelot_tree.specs.Tree.{function_of}
use Rattle.camelot_typing.specs.TypedPrograms.{typing_of}
use Rattle.linear_use.specs.Tables.{with_names}
use Rattle.linear_use.specs.TableLaws.{with_new}
use Rattle.normal_form.proofs.Tables.{functions_new, functions_over}
use Rattle.normal_form.proofs.names.function_names.Goals as goal

pub returns : goal.returns
returns c =
    let decls = c.deref-decl-items.result.now in
    ap (with_names c.funs.names) (sym (functions_over decls c.funs.decl-index c.funs-test.false)) ∙ c.funs.invariant ∙ ap (λ ds. with_names [] (map (λ f. f.name.word) (map function_of ds))) c.deref-decl-items.ensures.value
    ∙ with_new [] (map (λ f. f.name.word) (typing_of c.args.typed.now).source.funs) (functions_new (typing_of c.args.typed.now) c.args.typed.now.typed)
