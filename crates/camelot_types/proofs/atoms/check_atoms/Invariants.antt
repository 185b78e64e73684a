use Rattle.std.proofs.Common.{◌≡◌, drop}
use Rattle.camelot_tree.specs.Programs.{program_of}
use Rattle.camelot_types.specs.Declaring.{atoms_checked}
use Rattle.camelot_types.proofs.atoms.check_atoms.Given as goal

abbrev pub invariant-atoms : goal.invariant-atoms
invariant-atoms l = atoms_checked (program_of l.program) (drop l.atom-index l.atoms) ≡ atoms_checked (program_of l.program) l.atoms
