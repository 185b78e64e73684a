use Rattle.std.proofs.Common.{◌≡◌, ◌++◌, drop, map}
use Rattle.std.specs.Prelude.{flat_map}
use Rattle.machine_image.specs.Words.{bound_of}
use Rattle.machine_image.specs.Writing.{bound_text}
use Rattle.machine_image.proofs.writing.push_live.Given as goal

abbrev pub invariant-live : goal.invariant-live
invariant-live l = l.out.items ++ flat_map bound_text (map bound_of (drop l.bound-index l.live)) ≡ l.initial.out.items ++ flat_map bound_text (map bound_of l.live)
