use Rattle.std.proofs.Common.{◌≡◌, ◌≤◌, [], length, map, replicate}
use Rattle.std.specs.Prelude.{vec_capacity}
use Rattle.tenant_service.proofs.holdings.fill.Given as goal

abbrev pub invariant-tenants : goal.invariant-tenants
invariant-tenants l = record {
  made : map (λ v. v.items) l.held.items ≡ replicate l.tenant [];
  many : length l.held.items ≡ l.tenant;
  room : l.count ≤ vec_capacity l.held;
}
