use Rattle.std.proofs.Common.{◌+◌, map, arith, rules}
use Rattle.camelot_tree.specs.Tree.{function_of}
use Rattle.camelot_types.specs.Solving.{unknowns}
use Rattle.camelot_types.proofs.Heading.{few_here, unknowns_more}
use Rattle.camelot_types.proofs.heads.unknowns.Goals as goal

pub overflow_cast-count : goal.overflow_cast-count
overflow_cast-count c = let few = few_here function_of c.args.funs.now c.funs.fun-index c.fun-item.result c.requires.few c.funs-test.true c.fun-item.is in search rules

pub overflow_add-count : goal.overflow_add-count
overflow_add-count c = let few = few_here function_of c.args.funs.now c.funs.fun-index c.fun-item.result c.requires.few c.funs-test.true c.fun-item.is in search rules

pub overflow_add-count-in-funs : goal.overflow_add-count-in-funs
overflow_add-count-in-funs c = let few = few_here function_of c.args.funs.now c.funs.fun-index c.fun-item.result c.requires.few c.funs-test.true c.fun-item.is in search rules

pub funs-preserved : goal.funs-preserved
funs-preserved c =
    let few = few_here function_of c.args.funs.now c.funs.fun-index c.fun-item.result c.requires.few c.funs-test.true c.fun-item.is in
    let len = c.len.ensures in
    record {
      number = omega (arith, few, c.funs.invariant.number, len);
      left = unknowns_more function_of c.args.funs.now c.funs.fun-index c.funs.count (c.funs.count + (c.len.result + 1)) (unknowns (map function_of c.args.funs.now)) c.fun-item.result c.funs-test.true c.fun-item.is c.funs.invariant.left (omega (arith, len));
    }
