use Rattle.std.proofs.Common.{◌≡◌, ◌++◌, drop, map}
use Rattle.std.specs.Prelude.{flat_map}
use Rattle.certificate.specs.Words.{block_of}
use Rattle.certificate.specs.Writing.{block_text}
use Rattle.certificate.proofs.writing.push_blocks.Given as goal

abbrev pub invariant-rest : goal.invariant-rest
invariant-rest l = l.out.items ++ flat_map block_text (map block_of (drop l.block-index l.blocks)) ≡ l.initial.out.items ++ flat_map block_text (map block_of l.blocks)
