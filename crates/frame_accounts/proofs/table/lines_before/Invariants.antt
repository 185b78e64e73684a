use Rattle.std.proofs.Common.{◌-◌, ◌≤◌, length, map}
use Rattle.certificate.specs.Words.{block_of}
use Rattle.frame_accounts.specs.Tables.{lines_before}
use Rattle.frame_accounts.proofs.table.lines_before.Given as goal

abbrev pub invariant-lines : goal.invariant-lines
invariant-lines l = l.count ≤ lines_before (map block_of l.lines) l.block

abbrev pub decreases-lines : goal.decreases-lines
decreases-lines l = length l.lines - l.count
