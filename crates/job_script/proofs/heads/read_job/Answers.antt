use Rattle.std.proofs.Common.{sym, ◌∙◌, subst}
use Rattle.std.specs.Prelude.{MatchResult}
use Rattle.job_script.specs.Reading.{HeadFits, IsRead, IsStopped}
use Rattle.job_script.specs.Heads.{head_view}
use Rattle.job_script.proofs.Heading.{no_job_name, no_program_word, job_goes}
use Rattle.job_script.proofs.heads.read_job.Goals as goal

pub returns-then-not-is_word : goal.returns-then-not-is_word
returns-then-not-is_word c = no_job_name c.args.rest.now c.in-Some.name.now c.in-Some.after.now c.in-Some.ensures (sym c.is_word.ensures ∙ c.if-not-is_word.true)

pub returns-then-not-is_word-2 : goal.returns-then-not-is_word-2
returns-then-not-is_word-2 c =
    no_program_word c.args.rest.now c.in-Some.name.now c.in-Some.after.now c.in-Some-next_word.program.now c.in-Some-next_word.behind.now c.in-Some.ensures (sym c.is_word.ensures ∙ c.if-not-is_word.false) c.in-Some-next_word.ensures
    (sym c.is_word-2.ensures ∙ c.if-not-is_word-2.true)

pub returns : goal.returns
returns c =
    subst (λ o. MatchResult c.read_entry.result (λ head. IsRead o HeadFits (head_view head)) (λ stop. IsStopped o HeadFits stop))
    (sym (job_goes c.args.rest.now c.in-Some.name.now c.in-Some.after.now c.in-Some-next_word.program.now c.in-Some-next_word.behind.now c.in-Some.ensures (sym c.is_word.ensures ∙ c.if-not-is_word.false) c.in-Some-next_word.ensures
    (sym c.is_word-2.ensures ∙ c.if-not-is_word-2.false))) c.read_entry.ensures
