use Rattle.std.proofs.Common.{◌≡◌, ◌+◌, drop, map}
use Rattle.grail_code.specs.Code.{let_of, term_of, func_of, code_of}
use Rattle.lp_size.specs.Counting.{lets_onto, lets_behind}
use Rattle.lp_size.proofs.walk.lets_rows.Given as goal

abbrev pub invariant-lets : goal.invariant-lets
invariant-lets l = record {
  place : l.place ≡ l.binding-index + 1;
  total : lets_onto (code_of l.books.code.now) (func_of l.here.body.now) l.here.func l.here.block l.slots l.taken l.place l.total (map let_of (drop l.binding-index l.block.lets.items)) (term_of l.block.term)
      ≡ lets_onto (code_of l.books.code.now) (func_of l.here.body.now) l.here.func l.here.block l.initial.slots l.fn.first 1 0 (map let_of l.block.lets.items) (term_of l.block.term);
  behind : lets_behind (code_of l.books.code.now).types l.here.func l.here.block l.slots l.place (map let_of (drop l.binding-index l.block.lets.items))
      ≡ lets_behind (code_of l.books.code.now).types l.here.func l.here.block l.initial.slots 1 (map let_of l.block.lets.items);
}
