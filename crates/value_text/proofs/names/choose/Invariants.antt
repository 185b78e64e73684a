use Rattle.std.proofs.Common.{◌≡◌, drop, map}
use Rattle.std.specs.Prelude.{max}
use Rattle.camelot_values.specs.Kinds.{constructor_of}
use Rattle.value_text.specs.Choosing.{choose, best}
use Rattle.value_text.proofs.NameSteps.{moved}
use Rattle.value_text.proofs.names.choose.Given as goal

abbrev pub invariant-loop-place : goal.invariant-loop-place
invariant-loop-place l = record {
  chosen : moved l.place (choose l.marks l.word (map constructor_of (drop l.place l.def.cons.items))) ≡ choose l.marks l.word (map constructor_of l.def.cons.items);
  best : max l.good (best l.marks l.word (map constructor_of (drop l.place l.def.cons.items))) ≡ best l.marks l.word (map constructor_of l.def.cons.items);
}
