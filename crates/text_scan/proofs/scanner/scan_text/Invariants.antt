use Rattle.std.proofs.Common.{◌+◌, ◌-◌, ◌≤◌, length}
use Rattle.text_scan.proofs.ScanLemmas.{ReadSoFar}
use Rattle.text_scan.proofs.scanner.scan_text.Given as goal

abbrev pub invariant-loop-at : goal.invariant-loop-at
invariant-loop-at l = record { far : ReadSoFar l.text l.tokens.items l.at l.line; within : l.at ≤ length l.text; line_small : l.line ≤ l.at + 1 }

abbrev pub decreases-loop-at : goal.decreases-loop-at
decreases-loop-at l = length l.text - l.at
