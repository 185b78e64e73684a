use Rattle.value_text.proofs.Digits.{plus_none}
use Rattle.value_text.proofs.ints.read_plus.Goals as goal

pub returns-then-good-eq0 : goal.returns-then-good-eq0
returns-then-good-eq0 c = plus_none c.args.word.now c.read_digits-value.result.0 c.read_digits-value.result.1 c.read_digits-value.ensures c.if-good-eq0.true c.requires
