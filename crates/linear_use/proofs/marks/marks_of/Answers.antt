use Rattle.std.proofs.Common.{◌≡◌, map, Some, None, sym, ap, ◌∙◌, slice_get}
use Rattle.std.specs.Option.{option_map}
use Rattle.camelot_values.specs.Names.{place_among}
use Rattle.camelot_tree.specs.Tree.{function_of}
use Rattle.linear_use.specs.Uses.{lent_params}
use Rattle.linear_use.proofs.Tables.{loans_found, loans_absent, loans_short}
use Rattle.linear_use.proofs.marks.marks_of.Goals as goal

pub returns-in_default : goal.returns-in_default
returns-in_default c =
    let t = c.args.known.now.typed.now in
    let none : place_among (map (λ f. f.name.word) (map function_of t.program.funs.items)) c.args.name.now ≡ None =
    ap (λ l. place_among l c.args.name.now) (sym c.args.known.now.functions) ∙ sym c.number.ensures.number ∙ c.in_default.is in
    ap (λ l. lent_params t.types l c.new.result.kinds.now) c.new.ensures.params ∙ sym (loans_absent t.types t.program.funs.items t.funs.items c.args.name.now none)

pub returns-in_default-kinds_at : goal.returns-in_default-kinds_at
returns-in_default-kinds_at c =
    let t = c.args.known.now.typed.now in
    let place : place_among (map (λ f. f.name.word) (map function_of t.program.funs.items)) c.args.name.now ≡ Some c.in-Some.number =
    ap (λ l. place_among l c.args.name.now) (sym c.args.known.now.functions) ∙ sym c.number.ensures.number ∙ c.in-Some.is in
    let its : slice_get t.funs.items c.in-Some.number ≡ None = sym c.kinds_at.ensures ∙ ap (option_map (λ f. f.now)) c.in_default-kinds_at.is in
    ap (λ l. lent_params t.types l c.new-in_default-kinds_at.result.kinds.now) c.new-in_default-kinds_at.ensures.params
    ∙ sym (loans_short t.types t.program.funs.items t.funs.items c.args.name.now c.in-Some.number place its)

pub returns : goal.returns
returns c =
    let t = c.args.known.now.typed.now in
    let decl = c.in-Some-function_at.decl.now in
    let kinds = c.in-Some-kinds_at.kinds.now in
    let place : place_among (map (λ f. f.name.word) (map function_of t.program.funs.items)) c.args.name.now ≡ Some c.in-Some.number =
    ap (λ l. place_among l c.args.name.now) (sym c.args.known.now.functions) ∙ sym c.number.ensures.number ∙ c.in-Some.is in
    let fun : slice_get t.program.funs.items c.in-Some.number ≡ Some decl = sym c.function_at.ensures ∙ ap (option_map (λ f. f.now)) c.in-Some-function_at.is in
    let its : slice_get t.funs.items c.in-Some.number ≡ Some kinds = sym c.kinds_at.ensures ∙ ap (option_map (λ f. f.now)) c.in-Some-kinds_at.is in
    ap (λ l. lent_params t.types l c.deref-2.result.now) c.deref.ensures.value ∙ ap (lent_params t.types decl.params.items) c.deref-2.ensures.value
    ∙ sym (loans_found t.types t.program.funs.items t.funs.items c.args.name.now c.in-Some.number decl kinds place fun its)
