use Rattle.std.proofs.Common.{◌≡◌, true, sym, subst, rules}
use Rattle.std.specs.Prelude.{MatchResult}
use Rattle.std.specs.Str.{bytes_eq}
use Rattle.job_script.specs.Scripts.{IsUpTo}
use Rattle.job_script.specs.Reading.{IsRead, IsStopped}
use Rattle.job_script.proofs.Caps.{sized_is}
use Rattle.job_script.proofs.numbers.read_sized.Goals as goal

pub returns : goal.returns
returns c =
    let tag : bytes_eq c.cut.result.0.now c.args.tag.now ≡ true = search rules in
    subst (λ o. MatchResult c.read_limited.result (λ n. IsRead o (IsUpTo c.args.most) n) (λ stop. IsStopped o (IsUpTo c.args.most) stop))
    (sym (sized_is c.args.tag.now c.args.line.now c.cut.result.0.now c.cut.result.1.now c.behind.result.now c.cut.ensures.front c.cut.ensures.rest tag c.behind.ensures)) c.read_limited.ensures
