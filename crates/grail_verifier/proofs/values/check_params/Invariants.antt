use Rattle.std.proofs.Common.{◌≡◌, drop, map, Some}
use Rattle.grail_code.specs.Code.{func_of, code_of}
use Rattle.grail_verifier.specs.Numbered.{held, var_in}
use Rattle.licence.specs.Sites.{site_of}
use Rattle.grail_verifier.specs.Remembered.{IsSound}
use Rattle.grail_verifier.specs.Walk.{asked_short, bound}
use Rattle.grail_verifier.proofs.values.check_params.Given as goal

abbrev pub invariant-lines : goal.invariant-lines
invariant-lines l = record {
  found : asked_short (code_of l.books.code.now).types (func_of l.func) (site_of l.site) (bound (map (held l.books.lines.now.held) l.slots) l.fields (held l.books.lines.now.held l.matched)) Some (map (var_in l.books.lines.now.held) (drop l.line-index l.lines)) ≡ asked_short (code_of l.books.code.now).types (func_of l.func) (site_of l.site) (bound (map (held l.books.lines.now.held) l.slots) l.fields (held l.books.lines.now.held l.matched)) Some (map (var_in l.books.lines.now.held) l.lines);
  sound : IsSound (code_of l.books.code.now).types l.books.lines.now.held l.memo;
}
