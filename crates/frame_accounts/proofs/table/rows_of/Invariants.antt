use Rattle.std.proofs.Common.{◌≡◌, ◌≤◌, map}
use Rattle.std.specs.List.{range_with_len}
use Rattle.certificate.specs.Words.{func_of}
use Rattle.frame_accounts.specs.Tables.{lines_before, makes_before, row_for, row_of}
use Rattle.frame_accounts.proofs.table.rows_of.Given as goal

abbrev pub invariant-each : goal.invariant-each
invariant-each l = record {
  line : l.line ≤ lines_before (func_of l.own).blocks l.block;
  make : l.make ≤ makes_before (func_of l.own).makes l.block;
  rows : map row_of l.rows.items ≡ map (row_for (func_of l.own)) (range_with_len 0 l.block);
}
