use Rattle.std.proofs.Common.{◌+◌, ◌++◌, ap, map}
use Rattle.tenant_script.specs.Words.{tenant_view}
use Rattle.tenant_service.specs.Texts.{ends_text}
use Rattle.tenant_service.proofs.Freeing.{ends_more, ends_all}
use Rattle.tenant_service.proofs.ends.push_ends.Goals as goal

pub tenants-preserved : goal.tenants-preserved
tenants-preserved c = record {
  at = ap (λ n. n + 1) c.tenants.invariant.at;
  told = λ licences rooms holds.
      ends_more c.args.tenants.now c.tenants.tenant-index c.tenants.at _ rooms c.tenants.out.items c.push_end_at.new.out.items (c.args.out.now.items ++ ends_text (map tenant_view c.args.tenants.now) rooms) c.tenants.invariant.at
      c.tenants-test.true (c.tenants.invariant.told licences rooms holds) (λ there. c.in_ok-push_end_at.ensures licences (map tenant_view c.args.tenants.now) rooms holds there);
}

pub returns : goal.returns
returns c = λ licences rooms holds.
    ends_all c.args.tenants.now c.tenants.tenant-index rooms c.tenants.out.items (c.args.out.now.items ++ ends_text (map tenant_view c.args.tenants.now) rooms) c.tenants-test.false (c.tenants.invariant.told licences rooms holds)
