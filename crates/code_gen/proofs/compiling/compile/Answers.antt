use Rattle.std.proofs.Common.{sym, ap, ◌∙◌, subst, arith}
use Rattle.std.proofs.Math.Logic.{∥∥₁_elim}
use Rattle.camelot_tree.specs.Meaning as source
use Rattle.camelot_typing.specs.TypedPrograms.{typing_of}
use Rattle.grail_code.specs.Meaning.{run_of}
use Rattle.grail_code.specs.Spelling.{FitsCode, Second}
use Rattle.grail_code.specs.WellFormed.{IsWellFormed}
use Rattle.normal_form.specs.Answers.{program_fault}
use Rattle.normal_form.specs.SetLaws.{outcome_set}
use Rattle.code_gen.specs.Generated.{compiled}
use Rattle.code_gen.proofs.Props.{fits_prop}
use Rattle.code_gen.proofs.WellProps.{well_prop}
use Rattle.code_gen.proofs.Singly.{is_code, few_functions}
use Rattle.code_gen.proofs.compiling.compile.Goals as goal

pub invariant_of-result : goal.invariant_of-result
invariant_of-result c =
    let t = typing_of c.args.program.now.typed in
    let none = sym (ap (λ q. program_fault (typing_of q)) c.in_ok-known.ensures) ∙ c.in_ok-funcs.ensures.finds in
    let within = c.law_of_room.ensures none in
    let funcs = c.in_ok-funcs.ensures.functions ∙ ap (λ q. (compiled (typing_of q)).funcs) c.in_ok-known.ensures in
    let few = few_functions c.in_ok-funcs.funcs.items (compiled t).funcs funcs within.few_funcs in
    let count = c.in_ok-funcs.funcs.ok.0 in
    record { few_funcs = omega (arith, count, few) }

pub returns-clause-code : goal.returns-clause-code
returns-clause-code c = is_code c.args.program.now.typed c.in_ok-known.known.typed.now c.in_ok-known.ensures _ c.in_ok-types.ensures c.in_ok-funcs.ensures.functions

pub returns-clause-well_formed : goal.returns-clause-well_formed
returns-clause-well_formed c =
    let typed = c.args.program.now.typed in
    let t = typing_of typed in
    let well = well_prop (compiled t) in
    let is = is_code typed c.in_ok-known.known.typed.now c.in_ok-known.ensures _ c.in_ok-types.ensures c.in_ok-funcs.ensures.functions in
    subst IsWellFormed (sym is)
    (∥∥₁_elim typed.typed well (λ typing. ∥∥₁_elim c.args.program.now.keeps well (λ rule. c.law_of_compiler.ensures.well_formed t typing rule)))

pub returns-clause-meaning : goal.returns-clause-meaning
returns-clause-meaning c limit func fuel args s known fit =
    let typed = c.args.program.now.typed in
    let t = typing_of typed in
    let is = is_code typed c.in_ok-known.known.typed.now c.in_ok-known.ensures _ c.in_ok-types.ensures c.in_ok-funcs.ensures.functions in
    let set = outcome_set (run_of (compiled t) limit func fuel args) (source.run_of t.source limit func fuel args) in
    ap (λ q. run_of q limit func fuel args) is
    ∙ ∥∥₁_elim typed.typed set (λ typing. ∥∥₁_elim c.args.program.now.keeps set (λ rule. c.law_of_compiler.ensures.meaning t limit func fuel args s typing rule known fit))

pub returns-clause-spelled : goal.returns-clause-spelled
returns-clause-spelled c =
    let typed = c.args.program.now.typed in
    let t = typing_of typed in
    let fits = fits_prop (compiled t) in
    let none = sym (ap (λ q. program_fault (typing_of q)) c.in_ok-known.ensures) ∙ c.in_ok-funcs.ensures.finds in
    let is = is_code typed c.in_ok-known.known.typed.now c.in_ok-known.ensures _ c.in_ok-types.ensures c.in_ok-funcs.ensures.functions in
    subst (FitsCode Second) (sym is)
    (∥∥₁_elim typed.typed fits (λ typing. ∥∥₁_elim c.args.program.now.keeps fits (λ rule. c.law_of_limits.ensures.spelled t typing rule typed.program.whole typed.program.named none)))
