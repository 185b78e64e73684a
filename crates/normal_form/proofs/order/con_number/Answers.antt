use Rattle.std.proofs.Common.{ap, ◌∙◌}
use Rattle.camelot_values.specs.Names.{place_among}
use Rattle.normal_form.specs.Tables.{source_in}
use Rattle.normal_form.proofs.Naming.{constructor_named}
use Rattle.normal_form.proofs.order.con_number.Goals as goal

pub returns-clause-number : goal.returns-clause-number
returns-clause-number c =
    constructor_named (source_in c.args.known.now.typed.now) c.args.known.now.typed.now.types c.args.known.now.cons c.args.name.now c.number.result c.args.known.now.typed.now.its_types c.args.known.now.con_names
    (c.number.ensures.number ∙ ap (place_among c.args.known.now.cons) c.bytes.ensures)
