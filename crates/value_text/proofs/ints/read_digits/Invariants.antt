use Rattle.std.proofs.Common.{◌-◌, length}
use Rattle.value_text.proofs.Digits.{Digits}
use Rattle.value_text.proofs.ints.read_digits.Given as goal

abbrev pub invariant-digits : goal.invariant-digits
invariant-digits l = Digits l.most l.word l.value l.at

abbrev pub decreases-digits : goal.decreases-digits
decreases-digits l = length l.word - l.at
