use Rattle.std.proofs.Common.{◌≡◌, drop, map}
use Rattle.grail_code.specs.Code.{let_of, code_of}
use Rattle.lp_size.specs.Counting.{builds_onto}
use Rattle.lp_size.proofs.unknowns.builds_count.Given as goal

abbrev pub invariant-lets : goal.invariant-lets
invariant-lets l = builds_onto (code_of l.books.code.now).types l.total (map let_of (drop l.binding-index l.lets)) ≡ builds_onto (code_of l.books.code.now).types 0 (map let_of l.lets)
