use Rattle.value_text.proofs.LaterSteps.{values_first}
use Rattle.value_text.proofs.behind.Later.values.Goals as goal

pub returns : goal.returns
returns c = values_first c.new.result.items c.args.others.now c.new.ensures.items
