use Rattle.std.proofs.Common.{◌≡◌, ◌+◌, drop, map}
use Rattle.grail_code.specs.Code.{let_of, term_of, code_of}
use Rattle.grail_code.specs.Code.{func_of as body_of}
use Rattle.grail_verifier.specs.Numbered.{held, make_in, func_in}
use Rattle.licence.specs.Sites.{site_of}
use Rattle.grail_verifier.specs.Remembered.{IsSound}
use Rattle.grail_verifier.specs.Walk.{lets_short}
use Rattle.grail_verifier.proofs.walk.check_lets.Given as goal

abbrev pub invariant-lets : goal.invariant-lets
invariant-lets l = record {
  place : l.site.place ≡ l.binding-index + 1;
  short : lets_short (code_of l.books.code.now) l.books.lines.now.cert (held l.books.lines.now.held 0) (body_of l.body.func.now) (func_in l.books.lines.now.held l.body.own.now) (site_of l.site) (map (make_in l.books.lines.now.held) l.rest) l.left (map (held l.books.lines.now.held) l.slots) (map let_of (drop l.binding-index l.block.lets.items)) (term_of l.block.term)
      ≡ lets_short (code_of l.books.code.now) l.books.lines.now.cert (held l.books.lines.now.held 0) (body_of l.body.func.now) (func_in l.books.lines.now.held l.body.own.now) (site_of l.fn.start) (map (make_in l.books.lines.now.held) l.makes) l.need (map (held l.books.lines.now.held) l.initial.slots) (map let_of l.block.lets.items) (term_of l.block.term);
  sound : IsSound (code_of l.books.code.now).types l.books.lines.now.held l.memo;
}
