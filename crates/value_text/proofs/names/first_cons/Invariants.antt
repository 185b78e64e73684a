use Rattle.std.proofs.Common.{◌≡◌, ◌*◌, ◌≤◌, length, map}
use Rattle.camelot_values.specs.Kinds.{data_type_of}
use Rattle.value_text.specs.Inhabited.{first_con}
use Rattle.value_text.proofs.NameSteps.{FirstsTo}
use Rattle.value_text.proofs.names.first_cons.Given as goal

abbrev pub invariant-loop-place : goal.invariant-loop-place
invariant-loop-place l = record {
  number : l.first ≡ first_con (map data_type_of l.types) l.place;
  few : l.first ≤ 64 * l.place;
  size : length l.firsts ≡ 64;
  done : FirstsTo (map data_type_of l.types) l.firsts l.place;
}
