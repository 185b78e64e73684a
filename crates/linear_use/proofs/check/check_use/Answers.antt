use Rattle.camelot_typing.specs.TypedPrograms.{typing_of}
use Rattle.linear_use.proofs.Answering.{takes_err}
use Rattle.linear_use.proofs.check.check_use.Goals as goal

pub returns-in_err-first_fault-clause-takes : goal.returns-in_err-first_fault-clause-takes
returns-in_err-first_fault-clause-takes c =
    takes_err c.from_residual.result (typing_of c.args.typed) c.in_err-first_fault.field-0.0 c.from_residual.ensures.1 c.args.typed.typed c.in_err-first_fault.ensures
