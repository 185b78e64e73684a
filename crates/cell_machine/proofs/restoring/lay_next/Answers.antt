use Rattle.std.proofs.Common.{sym, subst, arith, ◌<◌, length}
use Rattle.grail_code.specs.Code.{code_of}
use Rattle.machine_image.specs.Words as plain
use Rattle.std.specs.List.{AllByRecursion}
use Rattle.cell_machine.specs.FrameWords.{top_of}
use Rattle.cell_machine.specs.Saving.{plain_bounds}
use Rattle.cell_machine.proofs.FrameLaws.{waiting_length}
use Rattle.cell_machine.proofs.RestoringLaws.{width_fits, zeros_laid, locals_there}
use Rattle.cell_machine.proofs.restoring.lay_next.Goals as goal

pub wait-requires-clause-few : goal.wait-requires-clause-few
wait-requires-clause-few c = omega (arith, c.requires.few, waiting_length c.args.packed.now c.args.frames.now)

pub wait-requires-clause-width : goal.wait-requires-clause-width
wait-requires-clause-width c = width_fits (code_of c.args.code.now) (plain.frame_of c.args.next.now) c.args.frames.now.width c.frame_width.result c.requires.room c.requires.there c.frame_width.ensures.width

pub bind_kept-requires-clause-there : goal.bind_kept-requires-clause-there
bind_kept-requires-clause-there c =
    subst (λ l. AllByRecursion (λ b. b.local < length (top_of c.wait.new.self)) (plain_bounds l)) (sym c.deref.ensures.value)
    (locals_there (code_of c.args.code.now) (plain.frame_of c.args.next.now) (top_of c.wait.new.self) c.frame_width.result c.requires.locals c.frame_width.ensures.width
    (zeros_laid (top_of c.args.frames.now) (top_of c.wait.new.self) c.frame_width.result c.wait.ensures.top))
