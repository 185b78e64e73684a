use Rattle.grail_code.specs.Code.{code_of, func_of}
use Rattle.certificate.specs.Words as words
use Rattle.certificate_fit.proofs.Functions.{fits_known, formed_known}
use Rattle.certificate_fit.proofs.fit.misfit_in.Goals as goal

pub check_func-requires-clause-fits : goal.check_func-requires-clause-fits
check_func-requires-clause-fits c = fits_known (code_of c.args.code.now) c.args.number (func_of c.in-Some.func.now) c.requires.well c.in-Some.ensures

pub check_func-requires-clause-formed : goal.check_func-requires-clause-formed
check_func-requires-clause-formed c = formed_known c.args.cert.now c.args.number (words.func_of c.in-Some-cert_at.line.now) c.limits.ensures c.in-Some-cert_at.ensures
