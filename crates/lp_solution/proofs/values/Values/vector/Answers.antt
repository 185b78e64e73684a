use Rattle.lp_solution.proofs.Takings.{formed_at_end}
use Rattle.lp_solution.proofs.values.Values.vector.Goals as goal

pub of-requires : goal.of-requires
of-requires c = formed_at_end c.cons.pairs.items c.cons.rest.now c.args.cons.now c.cons.self c.args.self.now c.requires.ascend c.in_default.len_below c.cons.invariant.value
