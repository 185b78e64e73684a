use Rattle.std.proofs.Common.{ap, ◌∙◌, map}
use Rattle.grail_code.specs.Code.{code_of, func_of}
use Rattle.cases_cells.specs.Taken.{new_funcs}
use Rattle.cases_cells.proofs.Taking.{at_most}
use Rattle.cases_cells.proofs.machines.taken.most_taken.Goals as goal

pub returns-in-Some-checked_mul : goal.returns-in-Some-checked_mul
returns-in-Some-checked_mul c = at_most (code_of c.args.code.now) c.args.fuel c.in-Some.each c.in-Some-checked_mul.most (c.in-Some.ensures ∙ ap (λ l. new_funcs (map func_of l)) c.deref.ensures.value) c.in-Some-checked_mul.ensures.1
