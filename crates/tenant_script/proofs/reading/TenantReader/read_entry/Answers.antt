use Rattle.tenant_script.proofs.Taking.{only_further}
use Rattle.std.proofs.Common.{◌≡◌, ◌∙◌, true, false, sym, rules}
use Rattle.std.specs.Prelude.{codes}
use Rattle.std.specs.Str.{bytes_eq}
use Rattle.tenant_script.proofs.Heading.{head_tenant, head_program, head_start, head_finish, no_head}
use Rattle.tenant_script.proofs.Taking.{step_further, step_late}
use Rattle.tenant_script.proofs.Adding.{no_step, none_yet, some_yet}
use Rattle.tenant_script.proofs.reading.TenantReader.read_entry.Goals as goal

pub add_start-requires-clause-head : goal.add_start-requires-clause-head
add_start-requires-clause-head c = let tag : bytes_eq c.cut.result.0.now (codes "start") ≡ true = search rules in head_start c.args.line.now c.cut.result.0.now c.cut.result.1.now c.cut.ensures.front c.cut.ensures.rest tag

pub add_finish-requires-clause-head : goal.add_finish-requires-clause-head
add_finish-requires-clause-head c = let tag : bytes_eq c.cut.result.0.now (codes "finish") ≡ true = search rules in head_finish c.args.line.now c.cut.result.0.now c.cut.result.1.now c.cut.ensures.front c.cut.ensures.rest tag

pub add_program-requires-clause-head : goal.add_program-requires-clause-head
add_program-requires-clause-head c = let tag : bytes_eq c.cut.result.0.now (codes "program") ≡ true = search rules in head_program c.args.line.now c.cut.result.0.now c.cut.result.1.now c.cut.ensures.front c.cut.ensures.rest tag

pub returns-then-ne : goal.returns-then-ne
returns-then-ne c = let a : bytes_eq c.cut.result.0.now (codes "start") ≡ false = search rules in let b : bytes_eq c.cut.result.0.now (codes "finish") ≡ false = search rules in let d : bytes_eq c.cut.result.0.now (codes "program") ≡ false = search rules in let e : bytes_eq c.cut.result.0.now (codes "tenant") ≡ false = search rules in no_step c.args.self.now c.args.line.now c.requires.stage (no_head c.args.line.now c.cut.result.0.now c.cut.result.1.now c.cut.ensures.front c.cut.ensures.rest a b d e)

pub returns-then-not-is_empty : goal.returns-then-not-is_empty
returns-then-not-is_empty c = let tag : bytes_eq c.cut.result.0.now (codes "tenant") ≡ true = search rules in step_late c.args.self.now c.args.line.now c.cut.result.1.now c.requires.stage (some_yet c.args.self.now.items (sym c.is_empty.ensures ∙ c.if-not-is_empty.true)) (head_tenant c.args.line.now c.cut.result.0.now c.cut.result.1.now c.cut.ensures.front c.cut.ensures.rest tag)

pub add_tenant-requires-clause-step : goal.add_tenant-requires-clause-step
add_tenant-requires-clause-step c = let tag : bytes_eq c.cut.result.0.now (codes "tenant") ≡ true = search rules in step_further c.args.self.now c.args.line.now c.cut.result.1.now c.requires.stage (none_yet c.args.self.now.items (sym c.is_empty.ensures ∙ c.if-not-is_empty.false)) (head_tenant c.args.line.now c.cut.result.0.now c.cut.result.1.now c.cut.ensures.front c.cut.ensures.rest tag)

pub add_tenant-requires-clause-tenants : goal.add_tenant-requires-clause-tenants
add_tenant-requires-clause-tenants c = only_further c.args.self.now c.args.line.now c.args.after.now c.requires.stage c.requires.before (none_yet c.args.self.now.items (sym c.is_empty.ensures ∙ c.if-not-is_empty.false))
