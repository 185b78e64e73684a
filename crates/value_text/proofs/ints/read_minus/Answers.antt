use Rattle.value_text.proofs.Digits.{minus_none}
use Rattle.value_text.proofs.ints.read_minus.Goals as goal

pub returns-then-good-eq0 : goal.returns-then-good-eq0
returns-then-good-eq0 c = minus_none c.args.digits.now c.read_digits-value.result.0 c.read_digits-value.result.1 c.read_digits-value.ensures c.if-good-eq0.true
