use Rattle.std.proofs.Common.{◌≡◌, take, map}
use Rattle.grail_code.specs.Code.{code_of, func_of}
use Rattle.frame_locals.specs.Tables.{row_for, row_of}
use Rattle.frame_locals.proofs.table.rows.Given as goal

abbrev pub invariant-funcs : goal.invariant-funcs
invariant-funcs l = map row_of l.rows.items ≡ map (row_for (code_of l.code)) (map func_of (take l.func-index l.funcs))
