use Rattle.dual_simplex.specs.Systems.{plain_system}
use Rattle.dual_simplex.specs.Run.{plain_answer}
use Rattle.dual_simplex.proofs.Truth.{answer_least, answer_prices, answer_nothing}
use Rattle.dual_simplex.proofs.solver.solve.Goals as goal

pub returns-clause-least : goal.returns-clause-least
returns-clause-least c =
    let run = c.in_ok-run_system in
    answer_least (plain_system c.args.system.now) (plain_answer run.field-0.solved) c.requires run.ensures.exact

pub returns-clause-prices : goal.returns-clause-prices
returns-clause-prices c =
    let run = c.in_ok-run_system in
    answer_prices (plain_system c.args.system.now) (plain_answer run.field-0.solved) c.requires run.ensures.exact

pub returns-clause-nothing : goal.returns-clause-nothing
returns-clause-nothing c =
    let run = c.in_ok-run_system in
    answer_nothing (plain_system c.args.system.now) (plain_answer run.field-0.solved) c.requires run.ensures.exact
