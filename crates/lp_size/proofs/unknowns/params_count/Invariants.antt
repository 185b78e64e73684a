use Rattle.std.proofs.Common.{◌≡◌, drop}
use Rattle.grail_code.specs.Code.{func_of, code_of}
use Rattle.lp_size.specs.Counting.{params_onto}
use Rattle.lp_size.proofs.unknowns.params_count.Given as goal

abbrev pub invariant-kinds : goal.invariant-kinds
invariant-kinds l = record {
  number : l.number ≡ l._kind-index;
  total : params_onto (code_of l.books.code.now).types (func_of l.body) l.number l.total (drop l._kind-index l.kinds) ≡ params_onto (code_of l.books.code.now).types (func_of l.body) 0 0 l.kinds;
}
