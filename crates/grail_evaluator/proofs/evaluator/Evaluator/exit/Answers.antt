use Rattle.std.proofs.Common.{◌-◌, ap, true}
use Rattle.camelot_values.specs.Outcome.{given}
use Rattle.grail_evaluator.specs.Ends.{onto}
use Rattle.grail_evaluator.proofs.evaluator.Evaluator.exit.Goals as goal

pub returns-in-Some-clause-means : goal.returns-in-Some-clause-means
returns-in-Some-clause-means c = λ enter later fuel waits.
    let found = rw (c.in-Some.is, c.deref-in-Tail.ensures.value, c.deref-in-Tail-2.ensures) at c.in_ok-args-in-Tail.ensures in
    rw c.in-Tail.is (ap (λ o. onto c.args.counts (given o (λ vs. enter (fuel - c.args.counts.calls) waits true c.in-Tail.func vs))) found)

pub returns-clause-means : goal.returns-clause-means
returns-clause-means c = λ enter later fuel waits. rw c.in-Case.is (rw c.deref-in-Case.ensures.value at (c.case.ensures.means enter later fuel waits))
