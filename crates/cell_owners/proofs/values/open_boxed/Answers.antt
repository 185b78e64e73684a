use Rattle.camelot_values.specs.Kinds.{constructor_of}
use Rattle.cell_owners.proofs.Leaves.{few_fields}
use Rattle.cell_owners.proofs.values.open_boxed.Goals as goal

pub put_all-requires-clause-few : goal.put_all-requires-clause-few
put_all-requires-clause-few c = few_fields c.args.types.now c.args.number c.args.cell.tag (constructor_of c.in-Some.con.now) c.deref.result.now c.limits.ensures.each c.in-Some.ensures c.deref.ensures.value
