use Rattle.std.proofs.Common.{arith, length}
use Rattle.cell_machine.specs.Saved.{saved_of}
use Rattle.cell_machine.proofs.RestoringLaws.{running_again}
use Rattle.cell_machine.proofs.machine.Machine.restore.Goals as goal

pub returns-clause-running : goal.returns-clause-running
returns-clause-running c = running_again c.args.licence.now (saved_of c.args.state.now) (length c.args.span.cells) c.lay_machine.result c.args.room c.kept.ensures
    (omega (arith, c.limits.ensures.within, c.limits.ensures.few)) c.requires.fits c.lay_machine.ensures.code c.lay_machine.ensures.state c.lay_machine.ensures.room c.requires.room
