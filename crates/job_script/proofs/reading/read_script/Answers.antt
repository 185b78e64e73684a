use Rattle.job_script.specs.Words.{script_of}
use Rattle.job_script.specs.declared.reading.ScriptFault.TheVariants as fault
use Rattle.job_script.proofs.Answering.{fault_script, script_stop, fault_due}
use Rattle.job_script.proofs.reading.read_script.Goals as goal

pub returns-in-Ok-clause-line : goal.returns-in-Ok-clause-line
returns-in-Ok-clause-line c = λ line h. fault_script c.args.bytes.now (fault.Line line) (script_of c.in-Ok.script) h c.in-Ok.ensures

pub returns-in-Ok-clause-count : goal.returns-in-Ok-clause-count
returns-in-Ok-clause-count c = λ line h. fault_script c.args.bytes.now (fault.Count line) (script_of c.in-Ok.script) h c.in-Ok.ensures

pub returns-in-Ok-clause-repeat : goal.returns-in-Ok-clause-repeat
returns-in-Ok-clause-repeat c = λ line h. fault_script c.args.bytes.now (fault.Repeat line) (script_of c.in-Ok.script) h c.in-Ok.ensures

pub returns-in-Err-clause-read : goal.returns-in-Err-clause-read
returns-in-Err-clause-read c = λ script h. script_stop c.args.bytes.now c.in-Err.stop script c.in-Err.ensures h

pub returns-in-Err-clause-line : goal.returns-in-Err-clause-line
returns-in-Err-clause-line c = λ line h. fault_due c.args.bytes.now c.in-Err.stop (fault.Line line) c.in-Err.ensures h

pub returns-in-Err-clause-count : goal.returns-in-Err-clause-count
returns-in-Err-clause-count c = λ line h. fault_due c.args.bytes.now c.in-Err.stop (fault.Count line) c.in-Err.ensures h

pub returns-in-Err-clause-repeat : goal.returns-in-Err-clause-repeat
returns-in-Err-clause-repeat c = λ line h. fault_due c.args.bytes.now c.in-Err.stop (fault.Repeat line) c.in-Err.ensures h
