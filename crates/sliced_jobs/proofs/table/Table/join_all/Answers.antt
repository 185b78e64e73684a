use Rattle.std.proofs.Common.{arith, inr}
use Rattle.sliced_jobs.proofs.Tables.{some_way}
use Rattle.sliced_jobs.proofs.table.Table.join_all.Goals as goal

pub joins-preserved : goal.joins-preserved
joins-preserved c = record {
  table = λ asked arena h. c.in_ok-join.ensures.table asked arena (c.joins.invariant.table asked arena h);
  less = omega (arith, c.in_ok-join.ensures.less, c.joins.invariant.less);
  left = λ h. inr c.in_ok-join.ensures.some;
}

pub returns-clause-some : goal.returns-clause-some
returns-clause-some c asked arena h sizes left = some_way asked arena c.args.jobs.now c.joins.self (c.joins.invariant.table asked arena h) sizes (c.joins.invariant.left left)
    (c.may_join.ensures.waits c.joins-test.false)
