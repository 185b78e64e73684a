use Rattle.std.proofs.Common.{arith, subst}
use Rattle.text_lines.specs.Answers.{FaultIs}
use Rattle.text_lines.specs.Formats.{IsSame}
use Rattle.machine_image.specs.Parts.{kind_of}
use Rattle.machine_image.proofs.reading.read_image.Goals as goal

pub returns-in-Ok-clause-fault : goal.returns-in-Ok-clause-fault
returns-in-Ok-clause-fault c = λ line f. c.in-Ok.ensures.fault 0 line (omega arith) f

pub returns-in-Err-Fault-clause-fault : goal.returns-in-Err-Fault-clause-fault
returns-in-Err-Fault-clause-fault c = λ line f. (subst (FaultIs (λ found at. IsSame (kind_of found) 0 at line)) c.in-Err-Fault.field-0-is (c.in-Err-Fault.ensures.fault 0 line (omega arith) f)).line
