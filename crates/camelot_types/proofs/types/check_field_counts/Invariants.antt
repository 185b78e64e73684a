use Rattle.std.proofs.Common.{◌≡◌, drop, map}
use Rattle.camelot_tree.specs.Tree.{constructor_of}
use Rattle.camelot_types.specs.Declaring.{fields_checked}
use Rattle.camelot_types.proofs.types.check_field_counts.Given as goal

abbrev pub invariant-cons : goal.invariant-cons
invariant-cons l = fields_checked (map constructor_of (drop l.con-index l.cons)) ≡ fields_checked (map constructor_of l.cons)
