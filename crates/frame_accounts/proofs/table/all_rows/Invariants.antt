use Rattle.std.proofs.Common.{◌≡◌, ◌++◌, map, drop}
use Rattle.grail_code.specs.Code.{func_of}
use Rattle.frame_accounts.specs.Tables.{rows_from, rows_of}
use Rattle.frame_accounts.proofs.table.all_rows.Given as goal

abbrev pub invariant-funcs : goal.invariant-funcs
invariant-funcs l = map rows_of l.rows.items ++ rows_from l.licence.cert l.number (map func_of (drop l.number l.funcs)) ≡ rows_from l.licence.cert 0 (map func_of l.funcs)
