use Rattle.std.proofs.Common.{◌+◌, [], map, drop, refl, sym, ap, ◌∙◌}
use Rattle.camelot_values.specs.Kinds.{data_type_of}
use Rattle.camelot_typing.specs.TypedPrograms.{typing_of}
use Rattle.linear_use.specs.Tables.{with_names}
use Rattle.linear_use.specs.TableLaws.{with_new, with_append}
use Rattle.linear_use.proofs.Tables.{con_words, names_new, left_words, words_over}
use Rattle.linear_use.proofs.names.constructor_names.Goals as goal

pub types-preserved : goal.types-preserved
types-preserved c =
    let defs = c.defs-def-items.result.now in
    let rest = con_words (map data_type_of (drop (c.types.def-index + 1) defs)) in
    let own = map (λ x. x.name) c.def-item.result.cons.items in
    let left = left_words defs c.types.def-index (c.types.def-index + 1) c.def-item.result refl c.types-test.true c.def-item.is in
    ap (λ l. with_names l rest) (c.in_ok-add_names.ensures ∙ ap (λ l. with_names c.types.names (map (λ x. x.name) l)) c.deref.ensures.value)
    ∙ sym (with_append c.types.names own rest) ∙ ap (with_names c.types.names) (sym left) ∙ c.types.invariant

pub returns : goal.returns
returns c =
    let types = c.args.typed.now.types in
    let defs = c.defs-def-items.result.now in
    ap (with_names c.types.names) (sym (words_over defs c.types.def-index c.types-test.false)) ∙ c.types.invariant ∙ ap (λ ts. with_names [] (con_words ts)) c.defs-def-items.ensures
    ∙ with_new [] (con_words types) (names_new (typing_of c.args.typed.now) types c.args.typed.now.typed c.args.typed.now.its_types)
