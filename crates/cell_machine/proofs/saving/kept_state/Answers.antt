use Rattle.std.proofs.Common.{◌≡◌, ◌∙◌, ap, refl, map, w64, arith}
use mir.Val.{of_z, to_z}
use Rattle.std.proofs.lemmas.Int.{to_z-of_z}
use Rattle.grail_code.specs.Code.{code_of}
use Rattle.cell_machine.specs.FrameWords.{frame_of_position}
use Rattle.cell_machine.specs.Kept.{state_of}
use Rattle.cell_machine.specs.Saved.{waiting_kept, running_kept}
use Rattle.cell_machine.specs.Saving.{in_order}
use Rattle.cell_machine.proofs.SavingLaws.{frames_kept, state_is, top_taken}
use Rattle.cell_machine.proofs.saving.kept_state.Goals as goal

pub returns : goal.returns
returns c =
    let p = code_of c.args.code.now in
    let k = c.args.layout.now.packed in
    let r = c.args.state.now in
    let net : to_z w64 (of_z w64 c.net_of.result) ≡ c.net_of.result = grind (arith, to_z-of_z) in
    let callers = ap (λ cs. map (waiting_kept p) (in_order k.positions.items cs c.deref-2.result.now)) c.deref.ensures.value in
    let words = ap (λ ws. map (waiting_kept p) (in_order k.positions.items r.frames.callers.items ws)) c.deref-2.ensures.value in
    let top = ap (λ ws. running_kept p (frame_of_position (record { func = r.func; block = r.block; place = r.place }) ws)) (top_taken c.deref-3.result.now r.frames.words.items r.frames.base c.deref-3.ensures.value) in
    state_is p k r (record { calls = r.calls; net = to_z w64 (of_z w64 c.net_of.result); peak = r.peak; fuel = r.fuel; free = r.head; frames = c.push.new.self; cells = c.in_ok-cells.cells }) refl (net ∙ c.net_of.ensures) refl refl refl
    (frames_kept p k.positions.items r.frames.callers.items r.frames.words.items (state_of k r).frame c.in_ok-kept.kept.items c.push.new.self.items c.in_ok-running.running
    c.in_ok-push.ensures.items (c.in_ok-kept.ensures ∙ callers ∙ words) (c.in_ok-running.ensures ∙ top)) c.in_ok-cells.ensures
