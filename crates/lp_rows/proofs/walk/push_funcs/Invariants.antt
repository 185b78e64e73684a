use Rattle.std.proofs.Common.{◌≡◌, ◌++◌, drop, map}
use Rattle.dual_simplex.specs.Systems.{plain_row}
use Rattle.grail_code.specs.Code.{func_of, code_of}
use Rattle.lp_rows.specs.Plain.{plain}
use Rattle.lp_rows.specs.Walk.{funcs_rows}
use Rattle.lp_rows.proofs.walk.push_funcs.Given as goal

abbrev pub invariant-walk : goal.invariant-walk
invariant-walk l = record {
  number : l.number ≡ l.func-index;
  rows : map plain_row l.rows.items ++ funcs_rows (code_of l.books.code.now) (map plain l.books.unknowns.now) l.number (map func_of (drop l.func-index l.books.code.now.funcs.items)) ≡ map plain_row l.initial.rows.items ++ funcs_rows (code_of l.books.code.now) (map plain l.books.unknowns.now) 0 (map func_of l.books.code.now.funcs.items);
}
