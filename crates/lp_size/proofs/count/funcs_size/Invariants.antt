use Rattle.std.proofs.Common.{◌≡◌, drop, map}
use Rattle.grail_code.specs.Code.{func_of, code_of}
use Rattle.lp_size.specs.Counting.{funcs_onto, funcs_count_onto}
use Rattle.lp_size.proofs.count.funcs_size.Given as goal

abbrev pub invariant-walk : goal.invariant-walk
invariant-walk l = record {
  number : l.number ≡ l.func-index;
  unknowns : funcs_count_onto (code_of l.books.code.now).types l.unknowns (map func_of (drop l.func-index l.funcs))
      ≡ funcs_count_onto (code_of l.books.code.now).types 0 (map func_of l.funcs);
  rows : funcs_onto (code_of l.books.code.now) l.number l.rows (map func_of (drop l.func-index l.funcs))
      ≡ funcs_onto (code_of l.books.code.now) 0 0 (map func_of l.funcs);
}
