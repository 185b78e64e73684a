use Rattle.tenant_script.proofs.Taking.{only_first}
use Rattle.std.proofs.Common.{◌≡◌, true, false, rules}
use Rattle.std.specs.Prelude.{codes}
use Rattle.std.specs.Str.{bytes_eq}
use Rattle.tenant_script.proofs.Heading.{first_is, first_not}
use Rattle.tenant_script.proofs.Taking.{step_first, no_first}
use Rattle.tenant_script.proofs.reading.TenantReader.read_first.Goals as goal

pub returns-then-ne : goal.returns-then-ne
returns-then-ne c = let other : bytes_eq c.cut.result.0.now (codes "tenant") ≡ false = search rules in no_first c.args.self.now c.args.line.now c.requires.stage (first_not c.args.line.now c.cut.result.0.now c.cut.ensures.front other)

pub add_tenant-requires-clause-step : goal.add_tenant-requires-clause-step
add_tenant-requires-clause-step c = let tag : bytes_eq c.cut.result.0.now (codes "tenant") ≡ true = search rules in step_first c.args.self.now c.args.line.now c.args.after.now c.cut.result.1.now c.requires.stage c.requires.before (first_is c.args.line.now c.cut.result.0.now c.cut.result.1.now c.cut.ensures.front c.cut.ensures.rest tag)

pub add_tenant-requires-clause-tenants : goal.add_tenant-requires-clause-tenants
add_tenant-requires-clause-tenants c = only_first c.args.self.now c.args.line.now c.args.after.now c.requires.stage c.requires.before
