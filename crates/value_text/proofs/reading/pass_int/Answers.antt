use Rattle.std.proofs.Common.{arith}
use Rattle.value_text.specs.Due.{first_due}
use Rattle.value_text.proofs.PartSteps.{part_step, part_shorter}
use Rattle.value_text.proofs.reading.pass_int.Goals as goal

pub returns-in-Ok-clause-reading : goal.returns-in-Ok-clause-reading
returns-in-Ok-clause-reading c = λ ds r. part_step c.args.types.now (first_due c.args.kinds.now) c.args.text.now c.args.items.now.items _ c.args.kind c.args.others.now c.in-Some.part.others.now ds
    c.args.rest.now c.in-Some.part.rest.now c.in-Some.part.item c.in-Some.part.next c.requires.named c.in-Some.ensures c.in-Ok.ensures.items r

pub returns-in-Ok-clause-shorter : goal.returns-in-Ok-clause-shorter
returns-in-Ok-clause-shorter c =
    let less = part_shorter c.args.types.now c.args.kind c.args.others.now c.in-Some.part.others.now c.args.rest.now c.in-Some.part.rest.now c.in-Some.part.item c.in-Some.part.next c.requires.named c.in-Some.ensures in
    omega (arith, less)
