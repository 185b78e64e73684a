use Rattle.std.proofs.Common.{◌≡◌, ◌++◌, drop, map}
use Rattle.camelot_values.specs.Kinds.{constructor_of}
use Rattle.grail_check.specs.Faulting.{constructors_fault}
use Rattle.grail_check.proofs.types.check_cons.Given as goal

abbrev pub invariant-cons : goal.invariant-cons
invariant-cons l = record {
  fault : constructors_fault l.types (map (λ word. word.now) l.names.keys) (map constructor_of (drop l.con-index l.cons)) ≡ constructors_fault l.types (map (λ word. word.now) l.initial.names.keys) (map constructor_of l.cons);
  names : map (λ word. word.now) l.names.keys
      ++ map (λ c. c.name) (map constructor_of (drop l.con-index l.cons)) ≡ map (λ word. word.now) l.initial.names.keys
      ++ map (λ c. c.name) (map constructor_of l.cons);
}
