use Rattle.std.proofs.Common.{arith}
use Rattle.script_service.proofs.Filing.{all_made, none_made, one_made}
use Rattle.script_service.proofs.lines.plan_lines.Goals as goal

pub plans-init : goal.plans-init
plans-init g c = none_made g.K.Kept.keeps c.args.jobs.now c.args.arena c.args.plans.now c.in_ok-lines.lines.items c.in_ok-lines.ensures.items

pub plans-preserved : goal.plans-preserved
plans-preserved g c =
    one_made g.K.Kept.keeps c.args.jobs.now c.args.arena c.args.plans.now c.plans.lines.items c.push.new.self.items c.plan_line-line.result c.plans.plan-index _ (omega (arith, c.plans-test.true))
    c.plans.invariant c.plan_line-line.ensures c.in_ok-push.ensures.items

pub returns : goal.returns
returns g c = all_made g.K.Kept.keeps c.args.jobs.now c.args.arena c.args.plans.now c.plans.lines.items c.plans.plan-index (omega (arith, c.plans-test.false)) c.plans.invariant
