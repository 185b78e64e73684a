-- The calls of a script's jobs are plans of runs.
use Rattle.script_plans.proofs.CallLaws.{licensed_call, as_many_cells, have_plans}
use Rattle.script_plans.proofs.laws.law_of_calls.Goals as goal

pub returns-clause-call : goal.returns-clause-call
returns-clause-call c = licensed_call c.law_of_compiler.ensures.meaning

pub returns-clause-left : goal.returns-clause-left
returns-clause-left c = as_many_cells

pub returns-clause-plans : goal.returns-clause-plans
returns-clause-plans c = have_plans c.law_of_compiler.ensures.meaning
