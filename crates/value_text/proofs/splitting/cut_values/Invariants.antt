use Rattle.std.proofs.Common.{◌≡◌, ◌≤◌, length}
use Rattle.value_text.specs.Values.{Cuts}
use Rattle.value_text.proofs.splitting.cut_values.Given as goal

abbrev pub invariant-loop-value : goal.invariant-loop-value
invariant-loop-value l = record {
  cuts : Cuts l.items l.count l.values.items l.rest;
  few : length l.rest ≤ 65536;
  turn : length l.values.items ≡ l._value;
}
