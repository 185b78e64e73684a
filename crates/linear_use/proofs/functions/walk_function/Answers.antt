use Rattle.std.proofs.Common.{◌∙◌, refl, None}
use Rattle.camelot_tree.specs.Tree.{expression_of, function_of}
use Rattle.camelot_typing.specs.Typed.{kinds_of}
use Rattle.linear_use.specs.Walk.{globals_in, loans_in}
use Rattle.linear_use.proofs.FunctionLaws.{body_at, function_found, finds_by}
use Rattle.linear_use.proofs.functions.walk_function.Goals as goal

pub walk-requires : goal.walk-requires
walk-requires c =
    body_at c.args.typed.now.types (globals_in c.args.typed.now) c.deref.result.now c.args.kinds.now.exprs.items c.args.decl.now.params.items c.deref-2.result.now c.args.kinds.now.params.items c.deref-3.result.now
    c.in_ok-bind_params.field-0 (expression_of c.args.decl.now.body) c.deref.ensures.value c.requires.kinds c.in_ok-bind_params.ensures c.deref-2.ensures.value c.deref-3.ensures.value

pub returns : goal.returns
returns c =
    finds_by c.found.result c.walk.new.state.fault _
    (function_found (loans_in c.args.typed.now) (globals_in c.args.typed.now) (function_of c.args.decl.now) (kinds_of c.args.kinds.now) c.deref-2.result.now c.deref-3.result.now
    _ _ _ (record { scope = c.in_ok-bind_params.field-0; spent = c.new.result; next = c.len.result; position = 0; fault = None }) c.walk.new.state c.in_ok-check_result.ensures refl
    (c.len.ensures ∙ c.args.decl.now.params.ok.0) c.in_ok-bind_params.ensures c.deref-2.ensures.value c.deref-3.ensures.value c.new.ensures refl c.in_ok-walk.ensures)
    c.found.ensures
