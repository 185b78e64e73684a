use Rattle.std.proofs.Common.{List, Bool, subst}
use Rattle.cell_machine.specs.Saved.{saved_of}
use Rattle.cell_owners.specs.FreeLists.{IsFreeTaken, FailsAt}
use Rattle.pause_image.specs.Judging.{plain_frames}
use Rattle.pause_image.specs.Taking.{FramesAre, FramesTaken}
use Rattle.pause_image.proofs.Verdicts.{owned_is, free_fails}
use Rattle.pause_image.proofs.resuming.own_cells.Goals as goal

pub returns-in-Ok-take_free : goal.returns-in-Ok-take_free
returns-in-Ok-take_free c =
    let l = c.args.licence.now in
    let marks : List Bool = c.take_frames.new.marks in
    let later : List Bool = c.take_free.new.marks in
    owned_is l (saved_of c.args.state.now) marks later c.in-Ok.asked c.in-Ok-take_free.free c.requires.shaped
    (subst (λ cs. FramesTaken l cs (plain_frames c.args.state.now.frames.items) marks c.in-Ok.asked) c.deref.ensures.value
    (subst (λ fs. FramesTaken l c.deref.result.now (plain_frames fs) marks c.in-Ok.asked) c.deref-2.ensures.value
    (subst (FramesAre l c.deref.result.now (plain_frames c.deref-2.result.now) marks) c.in-Ok.is c.in_ok-asked.ensures.frames)))
    (subst (λ cs. IsFreeTaken cs c.args.state.now.free marks later c.in-Ok-take_free.free) c.deref-in-Ok.ensures.value c.in-Ok-take_free.ensures.answer)

pub returns-in-Ok : goal.returns-in-Ok
returns-in-Ok c =
    let l = c.args.licence.now in
    let marks : List Bool = c.take_frames.new.marks in
    free_fails l (saved_of c.args.state.now) marks c.in-Ok.asked c.in-Err-take_free.at c.requires.shaped
    (subst (λ cs. FramesTaken l cs (plain_frames c.args.state.now.frames.items) marks c.in-Ok.asked) c.deref.ensures.value
    (subst (λ fs. FramesTaken l c.deref.result.now (plain_frames fs) marks c.in-Ok.asked) c.deref-2.ensures.value
    (subst (FramesAre l c.deref.result.now (plain_frames c.deref-2.result.now) marks) c.in-Ok.is c.in_ok-asked.ensures.frames)))
    (subst (λ cs. FailsAt cs marks c.args.state.now.free c.in-Err-take_free.at) c.deref-in-Ok.ensures.value c.in-Err-take_free.ensures.answer)
