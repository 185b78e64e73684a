use Rattle.std.proofs.Common.{ap, sym, subst, arith}
use Rattle.grail_code.specs.Code.{code_of}
use Rattle.cell_machine.specs.Going.{IsGoing}
use Rattle.cell_machine.specs.Saving.{StandNear}
use Rattle.cell_machine.specs.Views.{MachineView}
use Rattle.cell_machine.specs.declared.machine.Layout.{Layout}
use Rattle.cell_machine.proofs.Safety.{counted}
use Rattle.cell_machine.proofs.SavingLaws.{callers_near, running_near}
use Rattle.cell_machine.proofs.machine.Machine.state.Goals as goal

pub kept_state-requires-clause-low : goal.kept_state-requires-clause-low
kept_state-requires-clause-low c = omega (arith, (counted c.args.self.now.code c.args.self.now.state c.requires.running.going).low, ap (λ m. m.state.low) c.self.view_is)

pub kept_state-requires-clause-near : goal.kept_state-requires-clause-near
kept_state-requires-clause-near c =
    subst (λ (y : Layout). StandNear y.packed.positions.items c.self.inside.state.frames.callers.items) (sym c.deref.ensures)
    (callers_near (code_of c.self.inside.code.now) c.self.inside.layout.value.packed c.self.inside.state (subst (λ (m : MachineView). IsGoing m.code m.state) (sym c.self.view_is) c.requires.running.going))

pub kept_state-requires-clause-place : goal.kept_state-requires-clause-place
kept_state-requires-clause-place c =
    running_near (code_of c.self.inside.code.now) c.self.inside.layout.value.packed c.self.inside.state (subst (λ (m : MachineView). IsGoing m.code m.state) (sym c.self.view_is) c.requires.running.going)
