use Rattle.std.proofs.Common.{◌≡◌, length, map}
use Rattle.grail_verifier.specs.Numbered.{make_in}
use Rattle.grail_verifier.specs.Walk.{makes_from}
use Rattle.grail_verifier.proofs.walk.makes_from.Given as goal

abbrev pub invariant-makes : goal.invariant-makes
invariant-makes l = makes_from l.block l.place (map (make_in l.books.lines.now.held) l.rest) ≡ makes_from l.block l.place (map (make_in l.books.lines.now.held) l.makes)

abbrev pub decreases-makes : goal.decreases-makes
decreases-makes l = length l.rest
