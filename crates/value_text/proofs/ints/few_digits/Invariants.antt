use Rattle.std.proofs.Common.{◌-◌, ◌≤◌}
use Rattle.value_text.proofs.Digits.{Begun}
use Rattle.value_text.proofs.ints.few_digits.Given as goal

abbrev pub invariant-few : goal.invariant-few
invariant-few l = record {
  begun : Begun l.text l.value l.at;
  some : 1 ≤ l.at;
}

abbrev pub decreases-few : goal.decreases-few
decreases-few l = l.most - l.at
