use Rattle.grail_code.specs.Code.{code_of}
use Rattle.grail_verifier.proofs.Exact.{cert_exact, cert_unread}
use Rattle.grail_verifier.proofs.entry.verify_cert.Goals as goal

pub returns-in-Ok-clause-exact : goal.returns-in-Ok-clause-exact
returns-in-Ok-clause-exact c = cert_exact (code_of c.args.code) c.args.cert.items c.in-Ok.read c.judge.result c.in-Ok.ensures.read c.in-Ok.ensures.line c.in-Ok.ensures.number c.judge.ensures.exact

pub returns-in-Err-Fault-clause-exact : goal.returns-in-Err-Fault-clause-exact
returns-in-Err-Fault-clause-exact c =
    rw c.in-Err-Fault.field-0-is
    (cert_unread (code_of c.args.code) c.args.cert.items c.in-Err-Fault.field-0 c.in-Err-Fault.fault c.in-Err-Fault.field-0-is c.in-Err-Fault.ensures.read c.in-Err-Fault.ensures.line c.in-Err-Fault.ensures.number)
