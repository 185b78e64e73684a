use Rattle.std.proofs.Common.{◌≡◌, List, ◌++◌, drop, map}
use Rattle.annotations.specs.Vectors.{Vector}
use Rattle.certificate.specs.Words.{func_of}
use Rattle.grail_verifier.specs.Numbered.{Keeps, func_in}
use Rattle.grail_verifier.proofs.numbering.number_funcs.Given as goal

abbrev pub invariant-lines : goal.invariant-lines
invariant-lines l = record {
  keeps : Keeps l.initial.held l.held;
  said : (later : List Vector) → Keeps l.held later → map (func_in later) l.funcs.items ++ map func_of (drop l.cert-index l.certs) ≡ map func_of l.certs;
}
