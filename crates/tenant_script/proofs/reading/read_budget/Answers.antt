use Rattle.std.proofs.Common.{sym, ◌∙◌}
use Rattle.tenant_script.proofs.Heading.{budget_none, budget_other, budget_stopped, budget_read}
use Rattle.tenant_script.proofs.reading.read_budget.Goals as goal

pub returns-in_default : goal.returns-in_default
returns-in_default c = budget_none c.args.rest.now c.in_default.ensures

pub returns-then-not-is_word : goal.returns-then-not-is_word
returns-then-not-is_word c = budget_other c.args.rest.now c.in-Some.name.now _ c.in-Some.ensures (sym c.is_word.ensures ∙ c.if-not-is_word.true)

pub returns-in-Ok : goal.returns-in-Ok
returns-in-Ok c = budget_read c.args.rest.now c.in-Some.name.now _ c.behind.result.now c.in-Ok.cells c.in-Some.ensures (sym c.is_word.ensures ∙ c.if-not-is_word.false) c.behind.ensures c.in-Ok.ensures

pub returns-in-Err : goal.returns-in-Err
returns-in-Err c = budget_stopped c.in-Err.stop c.args.rest.now c.in-Some.name.now _ c.behind.result.now c.in-Some.ensures (sym c.is_word.ensures ∙ c.if-not-is_word.false) c.behind.ensures c.in-Err.ensures
