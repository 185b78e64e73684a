use Rattle.tenant_script.specs.Words.{tenant_view}
use Rattle.tenant_service.proofs.Freeing.{end_is}
use Rattle.tenant_service.proofs.ends.push_end_at.Goals as goal

pub returns : goal.returns
returns c = λ licences ts rooms holds there.
    end_is licences ts rooms c.args.shared.now c.args.number c.held-held.result c.saturating_sub-free.result (tenant_view c.args.tenant.now) c.args.out.now.items c.push_end_of.new.out.items c.held-held.ensures c.saturating_sub-free.ensures
    c.in_ok-push_end_of.ensures holds there
