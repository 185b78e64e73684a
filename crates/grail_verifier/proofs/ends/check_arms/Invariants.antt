use Rattle.std.proofs.Common.{◌≡◌, drop, map}
use Rattle.grail_code.specs.Code.{arm_of, code_of}
use Rattle.grail_code.specs.Code.{func_of as body_of}
use Rattle.grail_verifier.specs.Numbered.{held, func_in}
use Rattle.licence.specs.Sites.{site_of}
use Rattle.grail_verifier.specs.Remembered.{IsSound}
use Rattle.grail_verifier.specs.Walk.{arms_short}
use Rattle.grail_verifier.proofs.ends.check_arms.Given as goal

abbrev pub invariant-arms : goal.invariant-arms
invariant-arms l = record {
  found : arms_short (code_of l.books.code.now).types l.books.lines.now.cert.unit (body_of l.here.func.now) (func_in l.books.lines.now.held l.own) (site_of l.here.site) l.here.left (map (held l.books.lines.now.held) l.slots) (held l.books.lines.now.held l.matched) l.con (map arm_of (drop l.arm-index l.arms))
      ≡ arms_short (code_of l.books.code.now).types l.books.lines.now.cert.unit (body_of l.here.func.now) (func_in l.books.lines.now.held l.own) (site_of l.here.site) l.here.left (map (held l.books.lines.now.held) l.slots) (held l.books.lines.now.held l.matched) l.first (map arm_of l.arms);
  sound : IsSound (code_of l.books.code.now).types l.books.lines.now.held l.memo;
}
