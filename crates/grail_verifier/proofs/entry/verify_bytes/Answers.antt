use Rattle.grail_verifier.proofs.Exact.{code_exact, code_undecoded}
use Rattle.grail_verifier.proofs.entry.verify_bytes.Goals as goal

pub returns-in-Ok-clause-exact : goal.returns-in-Ok-clause-exact
returns-in-Ok-clause-exact c = code_exact c.args.code.items c.args.cert.items c.in-Ok.code c.in-Ok.ensures.exact c.verify_code.result c.verify_code.ensures.exact

pub returns-in-Err-Fault-clause-exact : goal.returns-in-Err-Fault-clause-exact
returns-in-Err-Fault-clause-exact c = rw c.in-Err-Fault.field-0-is (code_undecoded c.args.code.items c.args.cert.items c.in-Err-Fault.field-0 c.in-Err-Fault.fault c.in-Err-Fault.field-0-is c.in-Err-Fault.ensures.exact)
