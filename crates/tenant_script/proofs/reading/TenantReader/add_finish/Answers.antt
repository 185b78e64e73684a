use Rattle.std.proofs.Common.{◌∙◌, sym}
use Rattle.tenant_script.proofs.Heading.{finish_none, finish_other, finish_nameless, some_finish}
use Rattle.tenant_script.proofs.Adding.{no_step}
use Rattle.tenant_script.proofs.reading.TenantReader.add_finish.Goals as goal

pub returns-in_default : goal.returns-in_default
returns-in_default c = no_step c.args.self.now c.args.line.now c.requires.stage (c.requires.head ∙ finish_none c.args.rest.now c.in_default.ensures)

pub returns-then-not-is_word : goal.returns-then-not-is_word
returns-then-not-is_word c = no_step c.args.self.now c.args.line.now c.requires.stage (c.requires.head ∙ finish_other c.args.rest.now c.in-Some.tenant.now c.in-Some.left.now c.in-Some.ensures (sym c.is_word.ensures ∙ c.if-not-is_word.true))

pub returns-then-not-is_word-2 : goal.returns-then-not-is_word-2
returns-then-not-is_word-2 c = no_step c.args.self.now c.args.line.now c.requires.stage (c.requires.head ∙ finish_nameless c.args.rest.now c.in-Some.tenant.now c.in-Some.left.now c.behind-name.result.now c.in-Some.ensures (sym c.is_word.ensures ∙ c.if-not-is_word.false) c.behind-name.ensures (sym c.is_word-2.ensures ∙ c.if-not-is_word-2.true))

pub add_end-requires-clause-head : goal.add_end-requires-clause-head
add_end-requires-clause-head c = c.requires.head ∙ some_finish c.args.rest.now c.in-Some.tenant.now c.in-Some.left.now c.behind-name.result.now c.in-Some.ensures (sym c.is_word.ensures ∙ c.if-not-is_word.false) c.behind-name.ensures (sym c.is_word-2.ensures ∙ c.if-not-is_word-2.false)
