use Rattle.std.proofs.Common.{arith}
use Rattle.text_lines.specs.Cuts.{further}
use Rattle.certificate.proofs.ItemSteps.{var_wide, var_read}
use Rattle.certificate.proofs.items.read_var.Goals as goal

pub returns-then-var-gt-MOST_NUMBER : goal.returns-then-var-gt-MOST_NUMBER
returns-then-var-gt-MOST_NUMBER c =
    var_wide c.args.last c.args.rest.now c.in-Some.word.now (further c.in-Some.after.now) c.in-Some-number.var c.is_after.result c.in-Ok.vector c.in-Some.ensures.words c.in-Some-number.ensures c.is_after.ensures c.if-not-is_after.false c.in-Ok.ensures (omega arith)

pub returns : goal.returns
returns c =
    var_read c.args.last c.args.rest.now c.in-Some.word.now (further c.in-Some.after.now) c.in-Some-number.var c.is_after.result c.in-Ok.vector c.in-Some.ensures.words c.in-Some-number.ensures c.is_after.ensures c.if-not-is_after.false c.in-Ok.ensures (omega arith)
