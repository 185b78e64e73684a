use Rattle.std.proofs.Common.{◌≡◌, drop, map}
use Rattle.grail_verifier.specs.Numbered.{held, var_in}
use Rattle.grail_verifier.specs.Walk.{put_all}
use Rattle.grail_verifier.proofs.walk.put_all.Given as goal

abbrev pub invariant-lines : goal.invariant-lines
invariant-lines l = put_all (map (held l.books.lines.now.held) l.slots) (map (var_in l.books.lines.now.held) (drop l.line-index l.lines)) ≡ put_all (map (held l.books.lines.now.held) l.initial.slots) (map (var_in l.books.lines.now.held) l.lines)
