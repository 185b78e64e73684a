use Rattle.std.proofs.Common.{◌≡◌, ◌+◌, ◌-◌, ◌≤◌, drop, length}
use Rattle.value_text.specs.Choosing.{common}
use Rattle.value_text.proofs.cutting.begins.Given as goal

abbrev pub invariant-fours : goal.invariant-fours
invariant-fours l = record {
  same : l.at + common (drop l.at l.name) (drop l.at l.text) ≡ common l.name l.text;
  within : l.at ≤ length l.name;
}

abbrev pub decreases-fours : goal.decreases-fours
decreases-fours l = length l.name - l.at

abbrev pub invariant-bytes : goal.invariant-bytes
invariant-bytes l = l.at + common (drop l.at l.name) (drop l.at l.text) ≡ common l.name l.text

abbrev pub decreases-bytes : goal.decreases-bytes
decreases-bytes l = length l.name - l.at
