use Rattle.std.proofs.Common.{arith}
use Rattle.cell_machine.proofs.DueLaws.{fields_few}
use Rattle.cell_machine.proofs.reading.Reading.read_con.Goals as goal

pub overflow_cast-fields : goal.overflow_cast-fields
overflow_cast-fields c = record { fits = omega (arith, fields_few c.args.types.now c.get-cell.result.tag c.fields_at-fields.result.now c.limits.ensures.each c.fields_at-fields.ensures.fields) }

pub read_fields-requires-clause-few : goal.read_fields-requires-clause-few
read_fields-requires-clause-few c = omega (arith, fields_few c.args.types.now c.get-cell.result.tag c.fields_at-fields.result.now c.limits.ensures.each c.fields_at-fields.ensures.fields)

pub read_fields-requires-clause-due : goal.read_fields-requires-clause-due
read_fields-requires-clause-due c = omega (arith, fields_few c.args.types.now c.get-cell.result.tag c.fields_at-fields.result.now c.limits.ensures.each c.fields_at-fields.ensures.fields, c.requires.due)
