use Rattle.std.proofs.Common.{◌≡◌, ◌*◌, ◌≤◌, take, sum}
use Rattle.sliced_jobs.proofs.serving.total.Given as goal

abbrev pub invariant-numbers : goal.invariant-numbers
invariant-numbers l = record {
  sum : l.total ≡ sum (take l.number-index l.numbers);
  few : l.total ≤ l.number-index * 18446744073709551616;
}
