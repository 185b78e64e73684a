use Rattle.std.proofs.Common.{sym, ◌∙◌}
use Rattle.pause_image.specs.SliceLaws.{lender_found, both_parts, none_lent}
use Rattle.pause_image.proofs.slicing.slice.Goals as goal

pub step_on-requires-clause-lent : goal.step_on-requires-clause-lent
step_on-requires-clause-lent c = (lender_found c.take_steps.new.machine.code c.take_steps.new.machine.state c.in-Some-lender.lender (sym c.lender.ensures ∙ c.in-Some-lender.is)).0

pub step_on-requires-clause-runs : goal.step_on-requires-clause-runs
step_on-requires-clause-runs c = (lender_found c.take_steps.new.machine.code c.take_steps.new.machine.state c.in-Some-lender.lender (sym c.lender.ensures ∙ c.in-Some-lender.is)).1

pub returns-in-Some-lender-clause-sliced : goal.returns-in-Some-lender-clause-sliced
returns-in-Some-lender-clause-sliced c = both_parts c.args.machine.now c.take_steps.new.machine c.step_on.new.machine c.args.steps c.step_on.result c.in-None.ensures.taken c.step_on.ensures.gone

pub returns-in-None-lender-clause-sliced : goal.returns-in-None-lender-clause-sliced
returns-in-None-lender-clause-sliced c = none_lent c.args.machine.now c.take_steps.new.machine c.args.steps c.in-None.ensures.taken (sym c.lender.ensures ∙ c.in-None-lender.is)
