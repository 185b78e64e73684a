use Rattle.std.proofs.Common.{◌≡◌, ◌+◌, drop, map}
use Rattle.grail_code.specs.Code.{let_of, code_of}
use Rattle.grail_check.specs.Faulting.{lets_fault, after_lets}
use Rattle.grail_check.proofs.blocks.check_lets.Given as goal

abbrev pub invariant-lets : goal.invariant-lets
invariant-lets l = record {
  place : l.place ≡ l.binding-index + 1;
  fault : lets_fault (code_of l.code) l.locals l.func l.number l.place l.marks (map let_of (drop l.binding-index l.lets)) ≡ lets_fault (code_of l.code) l.locals l.func l.number 1 l.initial.marks (map let_of l.lets);
  marks : after_lets (code_of l.code) l.locals l.marks (map let_of (drop l.binding-index l.lets)) ≡ after_lets (code_of l.code) l.locals l.initial.marks (map let_of l.lets);
}
