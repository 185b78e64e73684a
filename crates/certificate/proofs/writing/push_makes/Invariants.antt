use Rattle.std.proofs.Common.{◌≡◌, ◌++◌, drop, map}
use Rattle.std.specs.Prelude.{flat_map}
use Rattle.certificate.specs.Words.{make_of}
use Rattle.certificate.specs.Writing.{make_text}
use Rattle.certificate.proofs.writing.push_makes.Given as goal

abbrev pub invariant-makes : goal.invariant-makes
invariant-makes l = l.out.items ++ flat_map make_text (map make_of (drop l.make-index l.makes)) ≡ l.initial.out.items ++ flat_map make_text (map make_of l.makes)
