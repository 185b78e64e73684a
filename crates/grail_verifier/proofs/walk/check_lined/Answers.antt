use Rattle.std.proofs.Common.{map, ap}
use Rattle.std.specs.Option.{option_map}
use Rattle.grail_code.specs.Code.{block_of, code_of}
use Rattle.grail_code.specs.Code.{func_of as body_of}
use Rattle.grail_verifier.specs.Numbered.{held, var_in, block_in, make_in, func_in}
use Rattle.grail_verifier.proofs.Begun.{lined_is}
use Rattle.grail_verifier.proofs.walk.check_lined.Goals as goal

pub returns-in-Some-clause-found : goal.returns-in-Some-clause-found
returns-in-Some-clause-found c =
    lined_is (code_of c.args.books.code.now) c.args.books.lines.now.cert (held c.args.books.lines.now.held 0) (body_of c.args.body.func.now) (func_in c.args.books.lines.now.held c.args.body.own.now) _ (map (make_in c.args.books.lines.now.held) c.args.makes.now)
    (option_map (λ b. block_in c.args.books.lines.now.held b.now) c.args.line) (block_in c.args.books.lines.now.held c.in-Some.line.now) (map (var_in c.args.books.lines.now.held) c.deref.result.now) (block_of c.args.block.now) c.check_begun.result
    (ap (option_map (λ b. block_in c.args.books.lines.now.held b.now)) c.in-Some.is) (ap (map (var_in c.args.books.lines.now.held)) c.deref.ensures.value) c.check_begun.ensures.found
