use Rattle.std.proofs.Common.{◌≡◌, drop}
use Rattle.grail_code.specs.Code.{func_of, code_of}
use Rattle.lp_size.specs.Counting.{vars_onto}
use Rattle.lp_size.proofs.ends.vars_rows.Given as goal

abbrev pub invariant-params : goal.invariant-params
invariant-params l = vars_onto (code_of l.books.code.now).types (func_of l.here.body.now) l.here.func l.here.block l.slots l.fields l.matched l.to l.total (drop l.local-index l.params) ≡ vars_onto (code_of l.books.code.now).types (func_of l.here.body.now) l.here.func l.here.block l.slots l.fields l.matched l.to 0 l.params
