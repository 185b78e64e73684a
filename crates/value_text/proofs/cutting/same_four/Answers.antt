use Rattle.value_text.proofs.WordSteps.{four_same}
use Rattle.value_text.proofs.cutting.same_four.Goals as goal

pub returns : goal.returns
returns c = λ t. four_same c.args.name.now c.args.text.now c.args.at t
