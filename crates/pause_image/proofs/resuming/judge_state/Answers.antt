use Rattle.std.proofs.Common.{rules, ◌≡◌, length, subst, arith}
use Rattle.cell_machine.specs.Saved.{saved_of}
use Rattle.pause_image.specs.Judging.{plain_frames}
use Rattle.pause_image.specs.Shapes.{AreShaped}
use Rattle.pause_image.proofs.Verdicts.{owner_told}
use Rattle.pause_image.proofs.resuming.judge_state.Goals as goal

pub returns-in-Ok : goal.returns-in-Ok
returns-in-Ok c = λ text image.
    let size : length c.args.state.now.cells.items ≡ c.args.len = search rules in
    c.check_paid.ensures text (record { image = image; size = size }) c.in-Ok.ensures

pub returns-in-Err : goal.returns-in-Err
returns-in-Err c = λ text image.
    let size : length c.args.state.now.cells.items ≡ c.args.len = search rules in
    owner_told c.args.licence.now text c.args.len (saved_of c.args.state.now) c.in-Err.stop (record { image = image; size = size })
    (subst (λ fs. AreShaped c.args.licence.now (plain_frames fs)) c.deref.ensures.value c.in-None.ensures) c.in-Err.ensures
