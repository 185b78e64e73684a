use Rattle.std.proofs.Common.{◌≡◌, subst}
use Rattle.std.specs.Prelude.{Some}
use Rattle.camelot_values.specs.Kinds.{data_type_of}
use Rattle.camelot_values.specs.declared.kinds.TypeDef.{TypeDef}
use Rattle.value_text.specs.Choosing.{choose}
use Rattle.value_text.proofs.NodeSteps.{named_node}
use Rattle.value_text.proofs.nodes.find_con.Goals as goal

pub returns-in-Ok : goal.returns-in-Ok
returns-in-Ok c =
    named_node c.args.types.now c.defs-defs.result.now c.args.known.now.marks c.args.number c.in-Ok.chosen c.index-defs-place.result c.args.word.now c.con_node.result.0 c.con_node.result.1.now c.requires.distinct c.requires.knows.0 c.defs-defs.ensures c.if-place-defs.false
    (subst (λ (x : TypeDef). choose c.args.known.now.marks c.args.word.now (data_type_of x).cons ≡ Some c.in-Ok.chosen) c.index-defs-place.is c.in-Ok.ensures.chosen) c.con_node.ensures
