use Rattle.std.proofs.Common.{◌≡◌, drop, map}
use Rattle.std.specs.Prelude.{slice_get}
use Rattle.grail_code.specs.Code.{func_of, code_of}
use Rattle.grail_verifier.specs.Numbered.{held}
use Rattle.licence.specs.Sites.{site_of}
use Rattle.grail_verifier.specs.Remembered.{IsSound}
use Rattle.grail_verifier.specs.Walk.{all_short}
use Rattle.grail_verifier.proofs.values.check_all.Given as goal

abbrev pub invariant-locals : goal.invariant-locals
invariant-locals l = record {
  found : all_short (code_of l.books.code.now).types (func_of l.func) (site_of l.site) (slice_get (map (held l.books.lines.now.held) l.slots)) (drop l.local-index l.locals) (held l.books.lines.now.held l.need) ≡ all_short (code_of l.books.code.now).types (func_of l.func) (site_of l.site) (slice_get (map (held l.books.lines.now.held) l.slots)) l.locals (held l.books.lines.now.held l.need);
  sound : IsSound (code_of l.books.code.now).types l.books.lines.now.held l.memo;
}
