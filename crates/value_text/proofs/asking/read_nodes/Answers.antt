use Rattle.value_text.proofs.Answering.{all_possible, none_possible}
use Rattle.value_text.proofs.Texts.{bad_shape}
use Rattle.value_text.proofs.asking.read_nodes.Goals as goal

pub returns-then-not-all_have_values : goal.returns-then-not-all_have_values
returns-then-not-all_have_values c =
    none_possible c.args.types.now c.args.inhabited.now.marks c.args.kinds.now c.args.text.now c.all_have_values.result c.requires.knows.0 c.all_have_values.ensures c.if-not-all_have_values.true

pub read_items-requires-clause-possible : goal.read_items-requires-clause-possible
read_items-requires-clause-possible c =
    all_possible c.args.types.now c.args.inhabited.now.marks c.args.kinds.now c.all_have_values.result c.requires.knows.0 c.all_have_values.ensures c.if-not-all_have_values.false

pub returns-in-Err-At : goal.returns-in-Err-At
returns-in-Err-At c = bad_shape c.args.types.now c.args.kinds.now c.args.text.now c.in-Err-At.at (rw c.in-Err-At.field-0-is at c.in-Err-At.ensures)
