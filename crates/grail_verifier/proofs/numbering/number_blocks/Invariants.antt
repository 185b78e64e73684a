use Rattle.std.proofs.Common.{◌≡◌, List, ◌++◌, drop, map}
use Rattle.annotations.specs.Vectors.{Vector}
use Rattle.certificate.specs.Words.{block_of}
use Rattle.grail_verifier.specs.Numbered.{Keeps, block_in}
use Rattle.grail_verifier.proofs.numbering.number_blocks.Given as goal

abbrev pub invariant-lines : goal.invariant-lines
invariant-lines l = record {
  keeps : Keeps l.initial.held l.held;
  said : (later : List Vector) → Keeps l.held later → map (block_in later) l.blocks.items ++ map block_of (drop l.line-index l.lines) ≡ map block_of l.lines;
}
