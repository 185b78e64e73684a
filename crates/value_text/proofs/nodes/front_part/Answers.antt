use Rattle.std.proofs.Common.{refl}
use Rattle.value_text.proofs.PartSteps.{part_here}
use Rattle.value_text.proofs.nodes.front_part.Goals as goal

pub returns-in-Some : goal.returns-in-Some
returns-in-Some c =
    part_here c.args.kind c.args.others.now _ c.args.text.now c.in-Some.rest.now c.in-Some.number _ c.in-Int.is c.in-len1-up.len_at_least refl refl c.in-Some.ensures
