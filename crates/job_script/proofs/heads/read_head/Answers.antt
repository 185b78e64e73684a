use Rattle.std.proofs.Common.{◌≡◌, true, false, sym, subst, rules}
use Rattle.std.specs.Prelude.{MatchResult, codes}
use Rattle.std.specs.Str.{bytes_eq}
use Rattle.job_script.specs.Reading.{HeadFits, IsRead, IsStopped}
use Rattle.job_script.specs.Heads.{head_view}
use Rattle.job_script.proofs.Heading.{head_program, head_job}
use Rattle.job_script.proofs.heads.read_head.Goals as goal

pub returns-then-eq : goal.returns-then-eq
returns-then-eq c =
    let tag : bytes_eq c.cut.result.0.now (codes "program") ≡ true = search rules in
    subst (λ o. MatchResult c.read_program.result (λ head. IsRead o HeadFits (head_view head)) (λ stop. IsStopped o HeadFits stop))
    (sym (head_program c.args.line.now c.cut.result.0.now c.cut.result.1.now c.cut.ensures.front c.cut.ensures.rest tag)) c.read_program.ensures

pub returns-then-eq-2 : goal.returns-then-eq-2
returns-then-eq-2 c =
    let other : bytes_eq c.cut.result.0.now (codes "program") ≡ false = search rules in
    let tag : bytes_eq c.cut.result.0.now (codes "job") ≡ true = search rules in
    subst (λ o. MatchResult c.read_job.result (λ head. IsRead o HeadFits (head_view head)) (λ stop. IsStopped o HeadFits stop))
    (sym (head_job c.args.line.now c.cut.result.0.now c.cut.result.1.now c.cut.ensures.front c.cut.ensures.rest other tag)) c.read_job.ensures
