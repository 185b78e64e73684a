use Rattle.std.proofs.Common.{◌≡◌, drop}
use Rattle.grail_code.specs.Code.{func_of, code_of}
use Rattle.lp_size.specs.Counting.{args_onto}
use Rattle.lp_size.proofs.values.args_rows.Given as goal

abbrev pub invariant-locals : goal.invariant-locals
invariant-locals l = record {
  number : l.number ≡ l.local-index;
  total : args_onto (code_of l.books.code.now).types (func_of l.here.body.now) l.here.func l.here.block l.slots l.callee (func_of l.called) l.number l.total (drop l.local-index l.args)
      ≡ args_onto (code_of l.books.code.now).types (func_of l.here.body.now) l.here.func l.here.block l.slots l.callee (func_of l.called) 0 0 l.args;
}
