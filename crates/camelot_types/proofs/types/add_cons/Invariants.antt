use Rattle.std.proofs.Common.{◌≡◌, ◌++◌, drop, map}
use Rattle.camelot_tree.specs.Tree.{constructor_of}
use Rattle.camelot_types.specs.Walk.{words}
use Rattle.camelot_types.specs.Solving.{names_checked}
use Rattle.camelot_types.proofs.types.add_cons.Given as goal

abbrev pub invariant-cons : goal.invariant-cons
invariant-cons l = record {
  checked : names_checked l.names (map (λ c. c.name) (map constructor_of (drop l.con-index l.cons))) ≡ names_checked l.initial.names (map (λ c. c.name) (map constructor_of l.cons));
  names : l.names ++ words (map (λ c. c.name) (map constructor_of (drop l.con-index l.cons))) ≡ l.initial.names
      ++ words (map (λ c. c.name) (map constructor_of l.cons));
}
