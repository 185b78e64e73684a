use Rattle.std.proofs.Common.{◌≡◌, ◌≤◌, length, take}
use Rattle.camelot_values.specs.Kinds.{constructors}
use Rattle.licence.proofs.constructors.first_con.Given as goal

abbrev pub invariant-types : goal.invariant-types
invariant-types l = record {
  first : l.first ≡ length (constructors (take l.index l.types));
  within : l.index ≤ l.number;
}
