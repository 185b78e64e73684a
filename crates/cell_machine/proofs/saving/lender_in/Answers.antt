use Rattle.std.proofs.Common.{◌∙◌, ap, sym, refl, true, false, arith}
use Rattle.std.specs.Prelude.{Some, None}
use Rattle.grail_code.specs.Code.{code_of}
use Rattle.cell_machine.specs.Kept.{state_of}
use Rattle.cell_machine.specs.Saving.{lender_at}
use Rattle.cell_machine.proofs.SavingLaws.{lender_of}
use Rattle.cell_machine.proofs.saving.lender_in.Goals as goal

pub returns-in-Some : goal.returns-in-Some
returns-in-Some c =
    let k = c.args.layout.now.packed in
    let r = c.args.state.now in
    let among = ap (lender_at (code_of c.args.code.now) k.positions.items 0) c.deref.ensures.value in
    lender_of (code_of c.args.code.now) k.positions.items r.frames.callers.items r.frames.words.items (state_of k r).frame (Some c.in-Some.number) _ (sym c.in-Some.is ∙ c.lender_among.ensures ∙ among) refl

pub returns-then-lends : goal.returns-then-lends
returns-then-lends c =
    let k = c.args.layout.now.packed in
    let r = c.args.state.now in
    let among = ap (lender_at (code_of c.args.code.now) k.positions.items 0) c.deref.ensures.value in
    ap Some (omega (arith, c.len.ensures, r.frames.callers.ok.0))
    ∙ lender_of (code_of c.args.code.now) k.positions.items r.frames.callers.items r.frames.words.items (state_of k r).frame None true (sym c.in-None.is ∙ c.lender_among.ensures ∙ among) (sym c.if-lends.true ∙ c.lends.ensures)

pub returns-else-lends : goal.returns-else-lends
returns-else-lends c =
    let k = c.args.layout.now.packed in
    let r = c.args.state.now in
    let among = ap (lender_at (code_of c.args.code.now) k.positions.items 0) c.deref.ensures.value in
    lender_of (code_of c.args.code.now) k.positions.items r.frames.callers.items r.frames.words.items (state_of k r).frame None false (sym c.in-None.is ∙ c.lender_among.ensures ∙ among) (sym c.if-lends.false ∙ c.lends.ensures)
