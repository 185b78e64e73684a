use Rattle.grail_code.specs.Code.{code_of}
use Rattle.camelot_compiler.proofs.Parts.{has_parts}
use Rattle.camelot_compiler.proofs.stages.bundle.Goals as goal

pub new-requires : goal.new-requires
new-requires c = has_parts (code_of c.args.code.now) c.args.cert.now c.in_ok-code.code.items c.in_ok-cert.cert.items c.in_ok-code.ensures c.in_ok-cert.ensures
