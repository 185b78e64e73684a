use Rattle.grail_verifier.proofs.Exact.{accepted}
use Rattle.grail_verifier.proofs.entry.verify.Goals as goal

pub returns-clause-accepts : goal.returns-clause-accepts
returns-clause-accepts c = accepted c.args.code.items c.args.cert.items c.verify_bytes.result c.verify_bytes.ensures.exact
