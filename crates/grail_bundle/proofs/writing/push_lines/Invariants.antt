use Rattle.std.proofs.Common.{◌≡◌, ◌++◌, length}
use Rattle.grail_bundle.specs.Bundles.{digit_lines}
use Rattle.grail_bundle.proofs.writing.push_lines.Given as goal

abbrev pub decreases-lines : goal.decreases-lines
decreases-lines l = length l.rest

abbrev pub invariant-lines : goal.invariant-lines
invariant-lines l = l.text.items ++ digit_lines l.rest ≡ l.initial.text.items ++ digit_lines l.initial.rest
