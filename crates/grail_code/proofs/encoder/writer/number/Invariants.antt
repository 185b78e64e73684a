use Rattle.std.proofs.Common.{◌≡◌, ◌++◌, ◌<◌, ◌^◌}
use Rattle.grail_code.specs.Spelling.{number}
use Rattle.grail_code.proofs.encoder.writer.number.Given as goal

abbrev pub invariant-groups : goal.invariant-groups
invariant-groups l = record {
  so_far : l.out.items ++ number l.rest ≡ l.fn.out.items ++ number l.value;
  fits : l.rest < 2 ^ 32;
}

abbrev pub decreases-groups : goal.decreases-groups
decreases-groups l = l.rest
