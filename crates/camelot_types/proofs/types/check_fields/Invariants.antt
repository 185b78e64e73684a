use Rattle.std.proofs.Common.{◌≡◌, drop, map}
use Rattle.camelot_tree.specs.Tree.{constructor_of}
use Rattle.camelot_tree.specs.Programs.{program_of}
use Rattle.camelot_types.specs.Declaring.{cons_checked}
use Rattle.camelot_types.proofs.types.check_fields.Given as goal

abbrev pub invariant-cons : goal.invariant-cons
invariant-cons l = cons_checked (program_of l.program) (map constructor_of (drop l.con-index l.cons)) ≡ cons_checked (program_of l.program) (map constructor_of l.cons)
