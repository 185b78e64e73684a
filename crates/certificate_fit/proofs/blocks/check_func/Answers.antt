use Rattle.std.proofs.Common.{◌≡◌, map, subst, arith}
use Rattle.grail_code.specs.Code.{code_of, func_of}
use Rattle.certificate.specs.Words as words
use Rattle.certificate_fit.proofs.Params.{has_params}
use Rattle.certificate_fit.proofs.Order.{Walked, walk_goes_on, walk_ends}
use Rattle.certificate_fit.proofs.blocks.check_func.Goals as goal

pub is_right_at-requires-clause-params : goal.is_right_at-requires-clause-params
is_right_at-requires-clause-params c = has_params (code_of c.args.code.now) (func_of c.args.func.now) c.requires.fits (omega (arith, c.block_count-count.ensures.count, c.block_count-count.ensures.some))

pub walk-preserved : goal.walk-preserved
walk-preserved c =
    walk_goes_on (code_of c.args.code.now) (func_of c.args.func.now) (words.func_of c.args.cert.now) c.walk.number (map words.block_of c.walk.lines.now) (map words.block_of c.lines_from-lines.result.now)
    (map words.make_of c.walk.makes.now) (map words.make_of c.makes_from-makes.result.now) c.walk.invariant c.lines_from-lines.ensures c.makes_from-makes.ensures (c.is_right_at.ensures.0 c.if-not-is_right_at.false)

pub returns : goal.returns
returns c =
    let same : c.walk.number ≡ c.block_count-count.result = omega (arith, c.walk-test.false, c.walk.auto.number-end) in
    walk_ends (code_of c.args.code.now) (func_of c.args.func.now) (words.func_of c.args.cert.now) c.block_count-count.result (map words.block_of c.walk.lines.now) (map words.block_of c.lines_from.result.now)
    (map words.make_of c.walk.makes.now) (map words.make_of c.makes_from.result.now) c.first_left.result c.requires.formed c.block_count-count.ensures.count c.block_count-count.ensures.some
    (subst (λ n. Walked (code_of c.args.code.now) (func_of c.args.func.now) (words.func_of c.args.cert.now) n (map words.block_of c.walk.lines.now) (map words.make_of c.walk.makes.now)) same c.walk.invariant)
    c.lines_from.ensures c.makes_from.ensures c.first_left.ensures
