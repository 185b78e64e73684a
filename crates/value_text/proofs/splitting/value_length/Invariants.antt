use Rattle.std.proofs.Common.{◌≡◌, ◌≤◌, ◌+◌, ◌-◌, ◌*◌, drop, length}
use Rattle.value_text.specs.Values.{left_over}
use Rattle.value_text.proofs.splitting.value_length.Given as goal

abbrev pub invariant-nodes : goal.invariant-nodes
invariant-nodes l = record {
  over : left_over l.due (drop l.at l.items) ≡ left_over 1 l.items;
  few : l.due ≤ 255 * l.at + 1;
  within : l.at ≤ length l.items;
}

abbrev pub decreases-nodes : goal.decreases-nodes
decreases-nodes l = length l.items - l.at
