use Rattle.std.proofs.Common.{◌≡◌, drop, map}
use Rattle.grail_code.specs.Code.{code_of}
use Rattle.grail_code.specs.Code.{func_of as body_of}
use Rattle.grail_verifier.specs.Numbered.{held}
use Rattle.grail_verifier.specs.Remembered.{IsSound}
use Rattle.grail_verifier.specs.Walk.{funcs_short}
use Rattle.grail_verifier.proofs.walk.check_funcs.Given as goal

abbrev pub invariant-walk : goal.invariant-walk
invariant-walk l = record {
  number : l.number ≡ l.func-index;
  short : funcs_short (code_of l.books.code.now) l.books.lines.now.cert (held l.books.lines.now.held 0) l.number (map body_of (drop l.func-index l.books.code.now.funcs.items))
      ≡ funcs_short (code_of l.books.code.now) l.books.lines.now.cert (held l.books.lines.now.held 0) 0 (map body_of l.books.code.now.funcs.items);
  sound : IsSound (code_of l.books.code.now).types l.books.lines.now.held l.memo;
}
