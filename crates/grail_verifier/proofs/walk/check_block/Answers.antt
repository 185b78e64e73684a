use Rattle.std.proofs.Common.{map, ap, arith}
use Rattle.std.proofs.lemmas.Bool.Decides.{nat_tests}
use Rattle.grail_code.specs.Code.{block_of, code_of}
use Rattle.grail_code.specs.Code.{func_of as body_of}
use Rattle.grail_verifier.specs.Numbered.{held, var_in, make_in, func_in}
use Rattle.grail_verifier.proofs.Begun.{first_is}
use Rattle.grail_verifier.proofs.walk.check_block.Goals as goal

pub returns-then-number-eq0-clause-found : goal.returns-then-number-eq0-clause-found
returns-then-number-eq0-clause-found c =
    first_is (code_of c.args.books.code.now) c.args.books.lines.now.cert (held c.args.books.lines.now.held 0) (body_of c.args.body.func.now) (func_in c.args.books.lines.now.held c.args.body.own.now) c.args.func c.args.number (map (make_in c.args.books.lines.now.held) c.args.makes.now)
    (map (var_in c.args.books.lines.now.held) c.deref.result.now) (block_of c.args.block.now) c.check_begun.result (grind (arith, nat_tests, c.if-number-eq0.true)) (ap (map (var_in c.args.books.lines.now.held)) c.deref.ensures.value) c.check_begun.ensures.found
