use Rattle.std.proofs.Common.{◌+◌, map, arith, rules}
use Rattle.camelot_tree.specs.Tree.{function_of}
use Rattle.camelot_tree.specs.Programs.{program_of}
use Rattle.camelot_types.specs.Walk.{head_guess, head_guesses}
use Rattle.camelot_types.specs.Tables.{head_view}
use Rattle.camelot_types.proofs.Heading.{few_here, heads_more, head_last}
use Rattle.camelot_types.proofs.heads.head_guesses.Goals as goal

pub head_guess-requires-clause-few : goal.head_guess-requires-clause-few
head_guess-requires-clause-few c = few_here function_of c.args.funs.now c.funs.fun-index c.fun-item.result c.requires.few c.funs-test.true c.fun-item.is

pub overflow_cast-first : goal.overflow_cast-first
overflow_cast-first c = let few = few_here function_of c.args.funs.now c.funs.fun-index c.fun-item.result c.requires.few c.funs-test.true c.fun-item.is in search rules

pub overflow_add-first : goal.overflow_add-first
overflow_add-first c = let few = few_here function_of c.args.funs.now c.funs.fun-index c.fun-item.result c.requires.few c.funs-test.true c.fun-item.is in search rules

pub overflow_add-first-in-funs : goal.overflow_add-first-in-funs
overflow_add-first-in-funs c = let few = few_here function_of c.args.funs.now c.funs.fun-index c.fun-item.result c.requires.few c.funs-test.true c.fun-item.is in search rules

pub funs-preserved : goal.funs-preserved
funs-preserved c =
    let few = few_here function_of c.args.funs.now c.funs.fun-index c.fun-item.result c.requires.few c.funs-test.true c.fun-item.is in
    let p = program_of c.args.program.now in
    let len = c.len.ensures in
    record {
      number = omega (arith, few, c.funs.invariant.number, len);
      left = heads_more function_of p c.funs.first (c.funs.first + (c.len.result + 1)) (map head_view c.funs.heads.items) (map head_view c.push.new.self.items) c.args.funs.now c.funs.fun-index c.fun-item.result
          (head_guesses p 0 (map function_of c.args.funs.now)) c.funs-test.true c.fun-item.is c.funs.invariant.left (omega (arith, len))
          (head_last head_view c.funs.heads.items c.push.new.self.items c.in_ok-head.head (head_guess p c.funs.first (function_of c.fun-item.result)) c.in_ok-push.ensures.items c.in_ok-head.ensures);
    }
