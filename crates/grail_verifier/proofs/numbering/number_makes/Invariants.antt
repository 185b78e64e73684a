use Rattle.std.proofs.Common.{◌≡◌, List, ◌++◌, drop, map}
use Rattle.annotations.specs.Vectors.{Vector}
use Rattle.certificate.specs.Words.{make_of}
use Rattle.grail_verifier.specs.Numbered.{Keeps, make_in}
use Rattle.grail_verifier.proofs.numbering.number_makes.Given as goal

abbrev pub invariant-lines : goal.invariant-lines
invariant-lines l = record {
  keeps : Keeps l.initial.held l.held;
  said : (later : List Vector) → Keeps l.held later → map (make_in later) l.makes.items ++ map make_of (drop l.line-index l.lines) ≡ map make_of l.lines;
}
