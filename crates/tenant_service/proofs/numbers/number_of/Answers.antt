use Rattle.std.proofs.Common.{◌+◌, ap, sym, ◌∙◌}
use Rattle.tenant_service.proofs.Numbering.{number_here, number_later}
use Rattle.tenant_service.proofs.numbers.number_of.Goals as goal

pub returns-then-eq : goal.returns-then-eq
returns-then-eq c = number_here c.args.tenants.now c.tenants.tenant-index c.tenants.at _ c.args.name.now c.tenants.invariant.at c.tenants-test.true (sym c.eq.ensures ∙ c.if-eq.true)

pub tenants-preserved : goal.tenants-preserved
tenants-preserved c =
    record { at = ap (λ n. n + 1) c.tenants.invariant.at; known = number_later c.args.tenants.now c.tenants.tenant-index _ c.args.name.now c.tenants-test.true (sym c.eq.ensures ∙ c.if-eq.false) c.tenants.invariant.known }
