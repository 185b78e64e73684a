use Rattle.std.proofs.Common.{◌≡◌}
use Rattle.dual_simplex.specs.Systems.{plain_system}
use Rattle.dual_simplex.specs.Run.{plain_answer}
use Rattle.dual_simplex.specs.Scans.{run_from, pivots_from}
use Rattle.dual_simplex.specs.Lines.{plain_tableau}
use Rattle.dual_simplex.specs.Promises.{SaysPivots}
use Rattle.dual_simplex.proofs.First.{few_columns}
use Rattle.dual_simplex.proofs.Runs.{if_both, run_same, pivots_same}
use Rattle.dual_simplex.proofs.Counts.{answer_pivots}
use Rattle.dual_simplex.proofs.solver.run_system.Goals as goal

pub run-requires-clause-few : goal.run-requires-clause-few
run-requires-clause-few c = few_columns (plain_system c.args.system.now) c.in_ok-tableau.tableau c.requires c.in_ok-tableau.ensures.value

pub returns-clause-agrees : goal.returns-clause-agrees
returns-clause-agrees c =
    let s = plain_system c.args.system.now in
    let t = plain_tableau c.in_ok-tableau.tableau in
    let first = c.in_ok-tableau.ensures.value in
    if_both (λ r. plain_answer r.solved ≡ run_from 4096 0 t) (λ r. r.pivots ≡ pivots_from 4096 t) (λ r. SaysPivots r.pivots (plain_answer r.solved)) c.run.result
    (λ r e f. answer_pivots s r.pivots (plain_answer r.solved) (run_same (plain_answer r.solved) s t e first) (pivots_same r.pivots s t f first)) c.run.ensures.exact c.run.ensures.pivots
