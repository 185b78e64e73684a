use Rattle.camelot_compiler.proofs.Accepting.{found_so, found_accepts, found_refuses, refused_accepts, refused_refuses}
use Rattle.camelot_compiler.proofs.licensing.license.Goals as goal

pub returns-in-Ok-clause-found : goal.returns-in-Ok-clause-found
returns-in-Ok-clause-found c = found_so c.args.text.now c.in-Ok.bundle c.in-Ok.ensures.found c.in-Ok.ensures.certified c.verify_bundle.result c.verify_bundle.ensures

pub returns-in-Ok-clause-accepts : goal.returns-in-Ok-clause-accepts
returns-in-Ok-clause-accepts c = λ t l has. found_accepts c.args.text.now c.in-Ok.bundle c.in-Ok.ensures.found c.in-Ok.ensures.certified c.verify_bundle.result c.verify_bundle.ensures

pub returns-in-Ok-clause-refuses : goal.returns-in-Ok-clause-refuses
returns-in-Ok-clause-refuses c = λ cause h. found_refuses c.args.text.now c.in-Ok.bundle.code c.in-Ok.bundle.cert cause _ c.in-Ok.ensures.exact h

pub returns-in-Err-clause-accepts : goal.returns-in-Err-clause-accepts
returns-in-Err-clause-accepts c = λ t l has. refused_accepts c.args.text.now c.in-Err.fault c.in-Err.ensures.exact t l has

pub returns-in-Err-clause-refuses : goal.returns-in-Err-clause-refuses
returns-in-Err-clause-refuses c = λ cause h. refused_refuses c.args.text.now c.in-Err.fault cause c.in-Err.ensures.exact h
