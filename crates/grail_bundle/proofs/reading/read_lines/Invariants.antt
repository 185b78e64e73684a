use Rattle.std.proofs.Common.{length}
use Rattle.grail_bundle.specs.Lines.{Reading}
use Rattle.grail_bundle.proofs.reading.read_lines.Given as goal

abbrev pub invariant-lines : goal.invariant-lines
invariant-lines l = Reading l.text l.number l.may_follow l.code.items l.rest

abbrev pub decreases-lines : goal.decreases-lines
decreases-lines l = length l.rest
