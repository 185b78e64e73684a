use Rattle.std.proofs.Common.{◌≡◌, ◌∙◌, Some, sym, subst}
use Rattle.job_script.specs.Reading.{job_of}
use Rattle.job_script.specs.Heads.{head_view, job_view}
use Rattle.tenant_script.proofs.Heading.{start_none, start_other, some_call, other_call}
use Rattle.tenant_script.proofs.Adding.{no_step, start_stopped}
use Rattle.tenant_script.proofs.reading.TenantReader.add_start.Goals as goal

pub returns-in_default : goal.returns-in_default
returns-in_default c = no_step c.args.self.now c.args.line.now c.requires.stage (c.requires.head ∙ start_none c.args.rest.now c.in_default.ensures)

pub returns-then-not-is_word : goal.returns-then-not-is_word
returns-then-not-is_word c = no_step c.args.self.now c.args.line.now c.requires.stage (c.requires.head ∙ start_other c.args.rest.now c.in-Some.tenant.now c.in-Some.call.now c.in-Some.ensures (sym c.is_word.ensures ∙ c.if-not-is_word.true))

pub add_job-requires-clause-head : goal.add_job-requires-clause-head
add_job-requires-clause-head c = c.requires.head ∙ some_call c.args.rest.now c.in-Some.tenant.now c.in-Some.call.now (job_view c.in-Ok-Job.job) c.in-Some.ensures (sym c.is_word.ensures ∙ c.if-not-is_word.false) (subst (λ h. job_of c.in-Some.call.now ≡ Some (head_view h)) c.in-Ok-Job.field-0-is c.in-Ok-Job.ensures.is)

pub returns-in-Ok-Program : goal.returns-in-Ok-Program
returns-in-Ok-Program c = no_step c.args.self.now c.args.line.now c.requires.stage (c.requires.head ∙ other_call c.args.rest.now c.in-Some.tenant.now c.in-Some.call.now _ _ c.in-Some.ensures (sym c.is_word.ensures ∙ c.if-not-is_word.false) (subst (λ h. job_of c.in-Some.call.now ≡ Some (head_view h)) c.in-Ok-Program.field-0-is c.in-Ok-Program.ensures.is))

pub returns-in-Err : goal.returns-in-Err
returns-in-Err c = rw c.refused.ensures (start_stopped c.in-Err.stop c.args.self.now c.args.line.now c.args.after.now c.args.rest.now c.in-Some.tenant.now c.in-Some.call.now c.requires.stage c.requires.before c.requires.head c.in-Some.ensures (sym c.is_word.ensures ∙ c.if-not-is_word.false) c.in-Err.ensures)
