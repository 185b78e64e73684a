-- Private: words for functions of this crate.
-- What the walk of expressions keeps, as plain data.
use Rattle.camelot_types.specs.Solving.{Work}
use Rattle.camelot_types.specs.declared.walker.Walker.{Walker}

abbrev pub work_of : Walker → Work
work_of w = record { table = w.table.items; atoms = w.atoms.items }
