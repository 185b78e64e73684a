use Rattle.std.proofs.Common.{◌≡◌, ap, sym, subst, ◌∙◌}
use Rattle.std.specs.Prelude.{OnOk}
use Rattle.camelot_tree.specs.Tree.{Branch}
use Rattle.camelot_tree.specs.declared.tree.ArmCell.TheVariants as cell
use Rattle.camelot_typing.specs.Kinds.{bind, bind_fields, arm_scope, types_of, fields_of}
use Rattle.camelot_typing.specs.Typing.{known_kind}
use Rattle.camelot_values.specs.declared.kinds.Kind.TheVariants as kind
use Rattle.normal_form.specs.Normal.{con_of}
use Rattle.normal_form.specs.Tables.{source_in}
use Rattle.normal_form.proofs.NamedKinds.{arm_scope_named, cell_unbound}
use Rattle.normal_form.proofs.Trees.{arm_is}
use Rattle.normal_form.proofs.known_kinds.bind_arm_kinds.Goals as goal

pub returns-in-Keep : goal.returns-in-Keep
returns-in-Keep c =
    let p = source_in c.args.known.now.typed.now in
    let a = c.args.arm.now in
    let fields = c.in_ok-bind_field_kinds.ensures ∙ ap (λ fs. bind_fields known_kind fs c.field_kinds.result.now c.args.scope.now) c.deref.ensures.value ∙ ap (λ ks. bind_fields known_kind a.fields.items ks c.args.scope.now) c.field_kinds.ensures in
    subst (λ s. OnOk c.bind.result (c.bind.new.self ≡ s))
    (ap (λ w. bind w kind.Dia c.bind_field_kinds.new.scope) c.bytes.ensures ∙ ap (λ s. bind c.in-Keep.name.word kind.Dia s) fields
    ∙ arm_scope_named p a.con a.fields.items (cell.Keep c.in-Keep.name) c.args.scope.now ∙ ap (λ x. arm_scope known_kind (types_of p) a.con a.fields.items x c.args.scope.now) (sym c.in-Keep.is)
    ∙ ap (λ (b : Branch). arm_scope known_kind (types_of p) b.con b.fields b.cell c.args.scope.now) (sym (arm_is a))) c.bind.ensures.bound

pub returns-in-Plain : goal.returns-in-Plain
returns-in-Plain c =
    let p = source_in c.args.known.now.typed.now in
    let a = c.args.arm.now in
    let fields = c.in_ok-bind_field_kinds.ensures ∙ ap (λ fs. bind_fields known_kind fs c.field_kinds.result.now c.args.scope.now) c.deref.ensures.value ∙ ap (λ ks. bind_fields known_kind a.fields.items ks c.args.scope.now) c.field_kinds.ensures in
    fields ∙ sym (cell_unbound a.cell (bind_fields known_kind a.fields.items (fields_of (types_of p) (con_of p a.con)) c.args.scope.now) c.in-Plain.is) ∙ arm_scope_named p a.con a.fields.items a.cell c.args.scope.now
    ∙ ap (λ (b : Branch). arm_scope known_kind (types_of p) b.con b.fields b.cell c.args.scope.now) (sym (arm_is a))

pub returns-in-Plain-2 : goal.returns-in-Plain-2
returns-in-Plain-2 c =
    let p = source_in c.args.known.now.typed.now in
    let a = c.args.arm.now in
    let fields = c.in_ok-bind_field_kinds.ensures ∙ ap (λ fs. bind_fields known_kind fs c.field_kinds.result.now c.args.scope.now) c.deref.ensures.value ∙ ap (λ ks. bind_fields known_kind a.fields.items ks c.args.scope.now) c.field_kinds.ensures in
    fields ∙ sym (cell_unbound a.cell (bind_fields known_kind a.fields.items (fields_of (types_of p) (con_of p a.con)) c.args.scope.now) c.in-Plain.is) ∙ arm_scope_named p a.con a.fields.items a.cell c.args.scope.now
    ∙ ap (λ (b : Branch). arm_scope known_kind (types_of p) b.con b.fields b.cell c.args.scope.now) (sym (arm_is a))
