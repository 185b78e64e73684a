use Rattle.std.proofs.Common.{subst}
use Rattle.camelot_values.specs.Kinds.{data_type_of}
use Rattle.camelot_values.specs.declared.kinds.TypeDef.{TypeDef}
use Rattle.value_text.specs.Splitting.{FrontCon}
use Rattle.value_text.proofs.NodeSteps.{front_named}
use Rattle.value_text.proofs.nodes.front_con_node.Goals as goal

pub returns-in-Some : goal.returns-in-Some
returns-in-Some c =
    front_named c.args.types.now c.defs-defs.result.now c.args.known.now.marks c.args.number c.in-Some.chosen c.index-defs-place.result c.args.text.now c.in-Some.rest.now c.con_node-item.result.0 c.con_node-item.result.1.now
    c.requires.named c.requires.distinct c.requires.knows.0 c.defs-defs.ensures c.if-place-defs.false
    (subst (λ (x : TypeDef). FrontCon c.args.known.now.marks (data_type_of x).cons c.args.text.now c.in-Some.chosen c.in-Some.rest.now) c.index-defs-place.is c.in-Some.ensures.front) c.con_node-item.ensures
