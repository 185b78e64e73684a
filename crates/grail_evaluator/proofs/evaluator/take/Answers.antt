use Rattle.std.proofs.Common.{◌-◌}
use Rattle.grail_evaluator.specs.Trees.{plain}
use Rattle.grail_evaluator.specs.Locals.{env_of}
use Rattle.grail_evaluator.proofs.CallLaws.{kept_arm}
use Rattle.grail_evaluator.proofs.evaluator.take.Goals as goal

pub returns-in_ok-bind-in-Keep-clause-means : goal.returns-in_ok-bind-in-Keep-clause-means
returns-in_ok-bind-in-Keep-clause-means c = λ enter later fuel waits. rw c.in-Keep.is
    (kept_arm c.args.counts later c.args.arm.now.target (fuel - c.args.counts.calls) waits c.in-Keep.diamond (env_of c.args.env.items) (env_of c.bind.new.env.items) (plain c.a_diamond.result) c.a_diamond.ensures c.in_ok-bind-in-Keep.ensures)
