use Rattle.std.proofs.Common.{◌≡◌, ◌∙◌, true, false, refl, sym, subst}
use Rattle.camelot_values.specs.Names.{stands}
use Rattle.tenant_script.specs.Tenants.{AFinish}
use Rattle.tenant_script.proofs.Adding.{finish_much, finish_absent, finish_taken, items_more}
use Rattle.tenant_script.proofs.reading.TenantReader.add_end.Goals as goal

pub returns-then-self-ge-MOST_FINISHES : goal.returns-then-self-ge-MOST_FINISHES
returns-then-self-ge-MOST_FINISHES c = finish_much c.args.self.now c.args.line.now c.args.after.now c.args.tenant.now c.args.name.now c.requires.stage c.requires.before c.requires.head c.if-self-ge-MOST_FINISHES.true

pub returns-then-not-has : goal.returns-then-not-has
returns-then-not-has c = finish_absent c.args.self.now c.args.line.now c.args.after.now c.args.tenant.now c.args.name.now c.requires.stage c.requires.before c.requires.head c.if-self-ge-MOST_FINISHES.false (subst (λ l. stands l c.args.tenant.now ≡ false) c.requires.before.ready.kept.names (sym c.has.ensures ∙ c.if-not-has.true))

pub returns : goal.returns
returns c = finish_taken c.args.self.now c.push.new.self c.args.line.now c.args.after.now c.args.tenant.now c.args.name.now c.requires.stage c.requires.before c.requires.head c.if-self-ge-MOST_FINISHES.false (subst (λ l. stands l c.args.tenant.now ≡ true) c.requires.before.ready.kept.names (sym c.has.ensures ∙ c.if-not-has.false)) (items_more c.args.self.now.items.items c.push.new.self.items _ (AFinish c.args.tenant.now c.args.name.now) c.in-Ok.ensures.items refl)
