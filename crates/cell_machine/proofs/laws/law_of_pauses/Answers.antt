use Rattle.cell_machine.specs.theory.Pauses.{live_fit, paused_goes_on, slices_compose}
use Rattle.cell_machine.specs.theory.PutBack.{put_back_live}
use Rattle.cell_machine.proofs.laws.law_of_pauses.Goals as goal

pub returns-clause-kept : goal.returns-clause-kept
returns-clause-kept c = live_fit

pub returns-clause-goes_on : goal.returns-clause-goes_on
returns-clause-goes_on c = paused_goes_on

pub returns-clause-put_back : goal.returns-clause-put_back
returns-clause-put_back c = put_back_live

pub returns-clause-slices : goal.returns-clause-slices
returns-clause-slices c = slices_compose
