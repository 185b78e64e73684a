use Rattle.std.proofs.Common.{◌≡◌, ◌+◌, drop, map}
use Rattle.certificate.specs.Words.{var_of}
use Rattle.annotations.specs.Vectors.{at}
use Rattle.licence.specs.Books.{vector_of}
use Rattle.licence.specs.Bound.{arguments_carry}
use Rattle.licence.proofs.bound.arguments_carry.Given as goal

abbrev pub invariant-each : goal.invariant-each
invariant-each l = record {
  sum : l.total + arguments_carry l.types (λ x. at (vector_of (map var_of l.params) x)) l.number (drop l.argument-index l.args) ≡ arguments_carry l.types (λ x. at (vector_of (map var_of l.params) x)) 0 l.args;
  number : l.number ≡ l.argument-index;
}
