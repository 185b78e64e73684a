use Rattle.std.proofs.Common.{arith}
use Rattle.licence.proofs.Vectors.{carried_small}
use Rattle.licence.proofs.bound.units_of.Goals as goal

pub arguments_carry-carried-requires-clause-few : goal.arguments_carry-carried-requires-clause-few
arguments_carry-carried-requires-clause-few c = let small = carried_small c.args.types.now c.deref.result.now _ c.args.args.now c.deref.ensures.value c.requires.within.params c.requires.few in omega (arith, small)

pub overflow_add-result : goal.overflow_add-result
overflow_add-result c =
    let small = carried_small c.args.types.now c.deref.result.now _ c.args.args.now c.deref.ensures.value c.requires.within.params c.requires.few in
    omega (arith, small, c.arguments_carry-carried.ensures, c.requires.within.need)

pub returns-clause-few : goal.returns-clause-few
returns-clause-few c =
    let small = carried_small c.args.types.now c.deref.result.now _ c.args.args.now c.deref.ensures.value c.requires.within.params c.requires.few in
    omega (arith, small, c.arguments_carry-carried.ensures, c.requires.within.need)
