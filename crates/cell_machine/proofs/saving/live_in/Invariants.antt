use Rattle.std.proofs.Common.{◌≡◌, ◌++◌, drop, map}
use Rattle.machine_image.specs.Words.{bound_of}
use Rattle.cell_machine.specs.Saving.{bounds_marked}
use Rattle.cell_machine.proofs.saving.live_in.Given as goal

abbrev pub invariant-each : goal.invariant-each
invariant-each l = record {
  number : l.local ≡ l.word-index;
  so_far : map bound_of l.live.items ++ bounds_marked l.marks l.local (drop l.word-index l.words) ≡ bounds_marked l.marks 0 l.words;
}
