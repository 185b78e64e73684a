use Rattle.std.proofs.Common.{◌≡◌, ◌+◌, ◌++◌, drop, map}
use Rattle.dual_simplex.specs.Systems.{plain_row}
use Rattle.grail_code.specs.Code.{let_of, term_of, func_of, code_of}
use Rattle.licence.specs.Sites.{site_of}
use Rattle.lp_rows.specs.Plain.{plain, dense_of, names}
use Rattle.lp_rows.specs.Walk.{lets_rows}
use Rattle.lp_rows.proofs.walk.push_lets.Given as goal

abbrev pub invariant-lets : goal.invariant-lets
invariant-lets l = record {
  place : l.site.place ≡ l.binding-index + 1;
  func : l.site.func ≡ l.start.site.func;
  block_number : l.site.block ≡ l.start.site.block;
  rows : map plain_row l.rows.items ++ lets_rows (code_of l.books.code.now) (map plain l.books.unknowns.now) (func_of l.start.func.now) (site_of l.site) (dense_of l.left) (names l.site.func l.site.block l.slots.items) (map let_of (drop l.binding-index l.block.lets.items)) (term_of l.block.term)
      ≡ map plain_row l.initial.rows.items ++ lets_rows (code_of l.books.code.now) (map plain l.books.unknowns.now) (func_of l.start.func.now) (site_of l.start.site) (dense_of l.initial.left) (names l.start.site.func l.start.site.block l.initial.slots.items) (map let_of l.block.lets.items) (term_of l.block.term);
}
