use Rattle.std.proofs.Common.{◌≡◌, take, map}
use Rattle.std.specs.Prelude.{flat_map}
use Rattle.grail_code.specs.Code.{block_of}
use Rattle.grail_code.specs.WellFormed.{looked_at}
use Rattle.grail_check.specs.Marked.{mark_all}
use Rattle.grail_check.proofs.lent.mark_blocks.Given as goal

abbrev pub invariant-each : goal.invariant-each
invariant-each l = l.reads ≡ mark_all l.initial.reads (flat_map (λ b. looked_at b.term) (map block_of (take l.block-index l.blocks)))
