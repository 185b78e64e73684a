use Rattle.std.proofs.Common.{sym, ◌∙◌, subst}
use Rattle.std.specs.Prelude.{MatchResult}
use Rattle.job_script.specs.Reading.{HeadFits, IsRead, IsStopped}
use Rattle.job_script.specs.Heads.{head_view}
use Rattle.job_script.proofs.Heading.{no_entry_name, entry_is}
use Rattle.job_script.proofs.heads.read_entry.Goals as goal

pub returns-then-not-is_lower_name : goal.returns-then-not-is_lower_name
returns-then-not-is_lower_name c = no_entry_name c.args.name.now c.args.program.now c.args.rest.now c.in-Some.entry.now c.in-Some.after.now c.in-Some.ensures (sym c.is_lower_name.ensures ∙ c.if-not-is_lower_name.true)

pub returns : goal.returns
returns c =
    subst (λ o. MatchResult c.read_fuel.result (λ head. IsRead o HeadFits (head_view head)) (λ stop. IsStopped o HeadFits stop))
    (sym (entry_is c.args.name.now c.args.program.now c.args.rest.now c.in-Some.entry.now c.in-Some.after.now c.in-Some.ensures (sym c.is_lower_name.ensures ∙ c.if-not-is_lower_name.false))) c.read_fuel.ensures
