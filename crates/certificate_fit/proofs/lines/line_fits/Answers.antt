use Rattle.grail_code.specs.Code.{code_of, func_of}
use Rattle.certificate.specs.Words.{block_of}
use Rattle.certificate_fit.proofs.Walking.{front_exit}
use Rattle.certificate_fit.proofs.lines.line_fits.Goals as goal

pub returns-in-len1-up : goal.returns-in-len1-up
returns-in-len1-up c =
    front_exit block_of (code_of c.args.code.now) (func_of c.args.func.now) c.args.lines.now c.line-item.result c.args.number c.front_fits.result c.requires.there c.requires.lines c.in-len1-up.len_at_least c.line-item.is c.front_fits.ensures
