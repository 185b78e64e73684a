use Rattle.std.proofs.Common.{◌≡◌, List, ◌++◌, drop, map}
use Rattle.annotations.specs.Vectors.{Vector}
use Rattle.certificate.specs.Words.{var_of}
use Rattle.grail_verifier.specs.Numbered.{Keeps, var_in}
use Rattle.grail_verifier.proofs.numbering.number_vars.Given as goal

abbrev pub invariant-lines : goal.invariant-lines
invariant-lines l = record {
  keeps : Keeps l.initial.held l.held;
  said : (later : List Vector) → Keeps l.held later → map (var_in later) l.vars.items ++ map var_of (drop l.line-index l.lines) ≡ map var_of l.lines;
}
