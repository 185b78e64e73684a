use Rattle.std.proofs.Common.{rules}
use Rattle.grail_code.specs.Code.{code_of}
use Rattle.grail_code.specs.WellFormed.{IsWellFormed}
use Rattle.grail_verifier.proofs.Exact.{checked_exact}
use Rattle.grail_verifier.proofs.entry.verify_code.Goals as goal

pub returns-in-Ok-Ok-clause-exact : goal.returns-in-Ok-Ok-clause-exact
returns-in-Ok-Ok-clause-exact c =
    let well : IsWellFormed (code_of c.args.code) = search rules in
    checked_exact (code_of c.args.code) c.args.cert.items c.verify_cert.result well c.law_of_walk.ensures.apart c.verify_cert.ensures.exact
