use Rattle.certificate.proofs.Answering.{line_found, line_fault, number_found, number_fault}
use Rattle.certificate.proofs.reading.read_cert.Goals as goal

pub returns-in-Ok-clause-line : goal.returns-in-Ok-clause-line
returns-in-Ok-clause-line c = λ number fault. line_found c.args.bytes.now c.in-Ok.cert number c.limits.ensures c.in-Ok.ensures fault

pub returns-in-Ok-clause-number : goal.returns-in-Ok-clause-number
returns-in-Ok-clause-number c = λ line fault. number_found c.args.bytes.now c.in-Ok.cert line c.limits.ensures c.in-Ok.ensures fault

pub returns-in-Err-clause-line : goal.returns-in-Err-clause-line
returns-in-Err-clause-line c = λ number wrong. line_fault c.args.bytes.now c.in-Err.stop number c.in-Err.ensures wrong

pub returns-in-Err-clause-number : goal.returns-in-Err-clause-number
returns-in-Err-clause-number c = λ line wide. number_fault c.args.bytes.now c.in-Err.stop line c.in-Err.ensures wide
