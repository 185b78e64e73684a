use Rattle.std.proofs.Common.{sym, ◌∙◌}
use Rattle.camelot_values.specs.NameLaws.{same_name}
use Rattle.value_text.proofs.NodeSteps.{int_of_kind, dia_of_kind}
use Rattle.value_text.proofs.nodes.find_node.Goals as goal

pub returns-in-Ok : goal.returns-in-Ok
returns-in-Ok c = int_of_kind c.args.types.now c.args.kind c.args.word.now c.in-Ok.number c.in-Int.is c.in-Ok.ensures

pub returns-then-eq : goal.returns-then-eq
returns-then-eq c = dia_of_kind c.args.types.now c.args.kind c.args.word.now c.in-Dia.is (same_name c.args.word.now c.as_slice.result.now (sym c.eq.ensures ∙ c.if-eq.true) ∙ c.as_slice.ensures)
