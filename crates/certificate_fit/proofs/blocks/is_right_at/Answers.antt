use Rattle.std.proofs.Common.{◌≡◌, true, false, map, sym, ◌∙◌}
use Rattle.grail_code.specs.Code.{code_of, func_of}
use Rattle.certificate.specs.Words as words
use Rattle.certificate_fit.proofs.Order.{lines_left, makes_left, wrong_line, right_exactly}
use Rattle.certificate_fit.proofs.blocks.is_right_at.Goals as goal

pub line_fits-requires-clause-lines : goal.line_fits-requires-clause-lines
line_fits-requires-clause-lines c = lines_left (words.func_of c.args.cert.now) c.args.number (map words.block_of c.args.lines.now) c.requires.formed c.requires.lines

pub returns-then-not-line_fits : goal.returns-then-not-line_fits
returns-then-not-line_fits c =
    wrong_line (code_of c.args.code.now) (func_of c.args.func.now) (words.func_of c.args.cert.now) c.args.number (map words.block_of c.args.lines.now) c.requires.lines
    (λ h. let e : true ≡ false = sym (c.line_fits.ensures.1 h) ∙ c.if-not-line_fits.true in absurd cc)

pub makes_fit-requires-clause-makes : goal.makes_fit-requires-clause-makes
makes_fit-requires-clause-makes c = makes_left (words.func_of c.args.cert.now) c.args.number (map words.make_of c.args.makes.now) c.requires.formed c.requires.makes

pub returns : goal.returns
returns c =
    right_exactly (code_of c.args.code.now) (func_of c.args.func.now) (words.func_of c.args.cert.now) c.args.number (map words.block_of c.args.lines.now) (map words.make_of c.args.makes.now) c.makes_fit.result c.requires.lines c.requires.makes
    (c.own_fit_at.ensures.0 c.if-not-own_fit_at.false) (c.line_fits.ensures.0 c.if-not-line_fits.false) c.makes_fit.ensures
