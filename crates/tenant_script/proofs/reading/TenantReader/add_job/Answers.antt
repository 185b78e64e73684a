use Rattle.std.proofs.Common.{◌≡◌, ◌∙◌, true, false, refl, sym, subst}
use Rattle.camelot_values.specs.Names.{stands}
use Rattle.tenant_script.specs.Tenants.{AStart}
use Rattle.job_script.specs.Heads.{job_view}
use Rattle.tenant_script.proofs.Adding.{start_much, start_absent, start_taken, items_more}
use Rattle.tenant_script.proofs.reading.TenantReader.add_job.Goals as goal

pub returns-then-self-ge-MOST_STARTS : goal.returns-then-self-ge-MOST_STARTS
returns-then-self-ge-MOST_STARTS c = start_much c.args.self.now c.args.line.now c.args.after.now c.args.tenant.now (job_view c.args.job.now) c.requires.stage c.requires.before c.requires.head c.if-self-ge-MOST_STARTS.true

pub returns-then-not-has : goal.returns-then-not-has
returns-then-not-has c = start_absent c.args.self.now c.args.line.now c.args.after.now c.args.tenant.now (job_view c.args.job.now) c.requires.stage c.requires.before c.requires.head c.requires.fuel c.if-self-ge-MOST_STARTS.false (subst (λ l. stands l c.args.tenant.now ≡ false) c.requires.before.ready.kept.names (sym c.has.ensures ∙ c.if-not-has.true))

pub returns : goal.returns
returns c = start_taken c.args.self.now c.push.new.self c.args.line.now c.args.after.now c.args.tenant.now (job_view c.args.job.now) c.requires.stage c.requires.before c.requires.head c.requires.fuel c.if-self-ge-MOST_STARTS.false (subst (λ l. stands l c.args.tenant.now ≡ true) c.requires.before.ready.kept.names (sym c.has.ensures ∙ c.if-not-has.false)) (items_more c.args.self.now.items.items c.push.new.self.items _ (AStart c.args.tenant.now (job_view c.args.job.now)) c.in-Ok.ensures.items refl)
