use Rattle.std.proofs.Common.{◌≡◌, length, map}
use Rattle.grail_code.specs.Code.{block_of}
use Rattle.grail_check.specs.Sets.{HaveParams}
use Rattle.grail_check.proofs.body.params_of.Given as goal

abbrev pub invariant-each : goal.invariant-each
invariant-each l = record {
  count : length l.sets.items ≡ l.block-index;
  have : HaveParams l.sets.items (map block_of l.blocks);
}
