use Rattle.std.proofs.Common.{◌≡◌, ◌-◌, map, subst}
use Rattle.std.specs.Prelude.{IfOk}
use Rattle.grail_code.specs.Code.{arm_of}
use Rattle.grail_evaluator.specs.Trees.{plain_all}
use Rattle.grail_evaluator.specs.Locals.{env_of}
use Rattle.grail_evaluator.specs.Ends.{onto, end_run}
use Rattle.grail_evaluator.proofs.CallLaws.{case_is}
use Rattle.grail_evaluator.proofs.evaluator.Evaluator.case.Goals as goal

pub returns-clause-means : goal.returns-clause-means
returns-clause-means c = λ enter later fuel waits.
    let there = rw (c.in-Some.is, c.deref.ensures.value) at c.in_ok-matched.ensures in
    let bound = rw (c.if-not-branch.false, c.deref-2.ensures.value, c.deref-3.ensures.value) at c.in_ok-bind_all.ensures in
    subst (λ o. IfOk c.take.result (λ end. end_run enter later fuel waits end ≡ onto c.args.counts o))
    (case_is c.args.self.now.code.now.types later (fuel - c.args.counts.calls) waits c.args.on c.in-Some.matched.con (plain_all c.in-Some.matched.parts.items) (arm_of c.in-Some-arm_for.arm.now) (map arm_of c.args.arms.now) (env_of c.args.env.items) (env_of c.bind_all.new.env.items)
    there c.in-Some-arm_for.ensures bound)
    (c.take.ensures.means enter later fuel waits)
