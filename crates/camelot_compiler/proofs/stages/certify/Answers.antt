use Rattle.std.proofs.Common.{ap, Err}
use Rattle.grail_code.specs.Code.{code_of}
use Rattle.camelot_compiler.proofs.Coding.{certified_found, certified_exact, certified_stands, uncertified_found, uncertified_exact, uncertified_stands}
use Rattle.camelot_compiler.proofs.stages.certify.Goals as goal

pub returns-in-Ok-clause-found : goal.returns-in-Ok-clause-found
returns-in-Ok-clause-found c = certified_found (code_of c.args.code.now) c.in-Ok.cert c.bundle.result c.bundle.ensures.code c.bundle.ensures.cert c.bundle.ensures.memory c.requires.fits c.in-Ok.ensures.found

pub returns-in-Ok-clause-exact : goal.returns-in-Ok-clause-exact
returns-in-Ok-clause-exact c = certified_exact (code_of c.args.code.now) c.in-Ok.cert c.bundle.result c.bundle.ensures.code c.bundle.ensures.cert c.bundle.ensures.memory c.in-Ok.ensures.exact

pub returns-in-Ok-clause-stands : goal.returns-in-Ok-clause-stands
returns-in-Ok-clause-stands c = certified_stands (code_of c.args.code.now) c.in-Ok.cert c.bundle.result c.bundle.ensures.code c.bundle.ensures.cert c.bundle.ensures.memory c.requires.well c.requires.fits c.limits.ensures c.in-Ok.ensures.least c.in-Ok.ensures.found

pub returns-in-Err-clause-found : goal.returns-in-Err-clause-found
returns-in-Err-clause-found c = uncertified_found (code_of c.args.code.now) c.in-Err.stop c.inference_fault.result c.inference_fault.ensures c.in-Err.ensures.found

pub returns-in-Err-clause-exact : goal.returns-in-Err-clause-exact
returns-in-Err-clause-exact c = uncertified_exact (code_of c.args.code.now) c.in-Err.stop c.inference_fault.result c.inference_fault.ensures c.in-Err.ensures.exact

pub returns-in-Err-clause-stands : goal.returns-in-Err-clause-stands
returns-in-Err-clause-stands c = uncertified_stands (code_of c.args.code.now) c.in-Err.stop c.inference_fault.result c.inference_fault.ensures (λ e. λ d. λ g. c.in-Err.ensures.none d (ap Err e) g)
