use Rattle.std.proofs.Common.{◌≡◌, drop}
use Rattle.grail_code.specs.Code.{func_of, code_of}
use Rattle.lp_size.specs.Counting.{fields_onto}
use Rattle.lp_size.proofs.values.fields_rows.Given as goal

abbrev pub invariant-locals : goal.invariant-locals
invariant-locals l = fields_onto (code_of l.books.code.now).types (func_of l.here.body.now) l.here.func l.here.block l.slots l.made l.total (drop l.local-index l.args) ≡ fields_onto (code_of l.books.code.now).types (func_of l.here.body.now) l.here.func l.here.block l.slots l.made 0 l.args
