use Rattle.grail_code.specs.Code.{code_of}
use Rattle.grail_check.proofs.WalkLaws.{right_answer, right_refusal}
use Rattle.grail_check.proofs.check.check_code.Goals as goal

pub returns-in-Ok-clause-well_formed : goal.returns-in-Ok-clause-well_formed
returns-in-Ok-clause-well_formed c = right_answer (code_of c.args.code.now) c.in-Ok.ensures

pub returns-in-Err-Fault-clause-well_formed : goal.returns-in-Err-Fault-clause-well_formed
returns-in-Err-Fault-clause-well_formed c = right_refusal (code_of c.args.code.now) c.in-Err-Fault.fault (rw c.in-Err-Fault.field-0-is at c.in-Err-Fault.ensures)
