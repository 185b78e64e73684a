use Rattle.value_text.proofs.NodeSteps.{front_int_named}
use Rattle.value_text.proofs.nodes.front_node.Goals as goal

pub returns-in-Some : goal.returns-in-Some
returns-in-Some c = front_int_named c.args.types.now c.args.kind c.args.text.now c.in-Some.rest.now c.in-Some.number c.in-Int.is c.in-Some.ensures
