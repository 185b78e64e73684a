use Rattle.std.proofs.Common.{◌≡◌, drop}
use Rattle.grail_code.specs.Code.{func_of, code_of}
use Rattle.lp_size.specs.Counting.{locals_onto}
use Rattle.lp_size.proofs.unknowns.locals_count.Given as goal

abbrev pub invariant-locals : goal.invariant-locals
invariant-locals l = locals_onto (code_of l.books.code.now).types (func_of l.body) l.total (drop l.local-index l.locals) ≡ locals_onto (code_of l.books.code.now).types (func_of l.body) 0 l.locals
