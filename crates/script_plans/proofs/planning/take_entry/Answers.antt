use Rattle.std.proofs.Common.{◌≡◌, Some, subst, rules}
use Rattle.std.specs.Prelude.{Ok}
use Rattle.script_plans.specs.Wanted.{IsWantedBy}
use Rattle.script_plans.specs.Turns.{planning_of}
use Rattle.script_plans.proofs.AllWanted.{call_taken}
use Rattle.script_plans.proofs.planning.take_entry.Goals as goal

pub returns-in_ok-keep-in-Some-Ok : goal.returns-in_ok-keep-in-Some-Ok
returns-in_ok-keep-in-Some-Ok c = λ rows entry w.
    let is : c.args.wanted ≡ Some (Ok c.in-Some-Ok.call) = search rules in
    call_taken rows c.args.arena c.args.place entry c.in-Some-Ok.call c.in_ok-plan-in-Some-Ok.plan (planning_of c.args.taken.now) (planning_of c.keep.new.taken) c.plan_call.new.jobs
    (subst (IsWantedBy c.args.taken.now.jobs.licences rows entry) is w) c.in_ok-plan-in-Some-Ok.ensures c.in_ok-keep-in-Some-Ok.ensures.jobs c.in_ok-keep-in-Some-Ok.ensures.plans c.in_ok-keep-in-Some-Ok.ensures.asked
