use Rattle.std.proofs.Common.{arith}
use Rattle.value_text.proofs.Answering.{too_long, of_values, only_read}
use Rattle.value_text.proofs.asking.read_whole.Goals as goal

pub returns-then-len-gt-MOST_ITEMS : goal.returns-then-len-gt-MOST_ITEMS
returns-then-len-gt-MOST_ITEMS c =
    too_long c.args.types.now c.args.kinds.now c.args.text.now c.in_ok-items.items.items c.len-then-len-gt-MOST_ITEMS.result c.in_ok-items.ensures (omega (arith, c.len-then-len-gt-MOST_ITEMS.ensures, c.in_ok-items.items.ok.0))
    (omega (arith, c.len-then-len-gt-MOST_ITEMS.ensures, c.len.ensures, c.if-len-gt-MOST_ITEMS.true))

pub split_values-requires-clause-values : goal.split_values-requires-clause-values
split_values-requires-clause-values c =
    of_values c.args.types.now c.args.kinds.now c.args.text.now c.in_ok-items.items.items c.in_ok-items.ensures

pub returns-in-Ok : goal.returns-in-Ok
returns-in-Ok c = only_read c.args.types.now c.args.kinds.now c.args.text.now c.in_ok-items.items.items c.in-Ok.values.items c.in_ok-items.ensures (omega (arith, c.if-len-gt-MOST_ITEMS.false, c.len.ensures, c.in_ok-items.items.ok.0)) c.in-Ok.ensures.nodes c.in-Ok.ensures.count
