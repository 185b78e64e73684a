use Rattle.grail_verifier.specs.AcceptedLaws.{verdict_of}
use Rattle.camelot_compiler.proofs.Accepting.{same_licence}
use Rattle.camelot_compiler.proofs.licensing.verify_bytes.Goals as goal

pub returns-in-Ok : goal.returns-in-Ok
returns-in-Ok c = λ l accepted. same_licence c.args.code.items c.args.cert.items c.in-Ok.licence l c.in-Ok.ensures.exact accepted
