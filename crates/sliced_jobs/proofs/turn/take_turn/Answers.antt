use Rattle.std.proofs.Common.{None}
use Rattle.job_world.specs.Words.{plan_of}
use Rattle.sliced_jobs.proofs.Kitting.{licence_at, kits_without, kits_with, kit_within, parts_same}
use Rattle.sliced_jobs.proofs.turn.take_turn.Goals as goal

pub take_kit-requires-clause-kit : goal.take_kit-requires-clause-kit
take_kit-requires-clause-kit c k e = c.requires.kits c.plan-plan.result.now.licence c.licence-licence.result.now k
    (licence_at c.args.jobs.now c.args.going.now.job (plan_of c.plan-plan.result.now) c.licence-licence.result.now c.plan-plan.ensures.is c.licence-licence.ensures.is) e

pub returns-in_default-clause-kits : goal.returns-in_default-clause-kits
returns-in_default-clause-kits c = kits_without c.args.jobs.now.licences c.args.kits.now.items c.take_kit.new.kits.items c.plan-plan.result.now.licence c.requires.kits c.take_kit.ensures.kits

pub put_kit-requires : goal.put_kit-requires
put_kit-requires c = record {
  there = kit_within c.args.jobs.now.licences c.args.kits.now.items c.take_kit.new.kits.items c.plan-plan.result.now.licence c.licence-licence.result.now None
      (licence_at c.args.jobs.now c.args.going.now.job (plan_of c.plan-plan.result.now) c.licence-licence.result.now c.plan-plan.ensures.is c.licence-licence.ensures.is)
      c.requires.many c.take_kit.ensures.kits;
}

pub returns-clause-span : goal.returns-clause-span
returns-clause-span c = c.put_back.ensures c.args.span
    (parts_same c.args.span c.cut_out-before.result.piece c.slice_job-piece.result.span c.cut_out-before.result.before c.cut_out-before.result.behind
    c.cut_out-before.ensures.parts c.slice_job-piece.ensures.span)

pub returns-clause-kits : goal.returns-clause-kits
returns-clause-kits c = kits_with c.args.jobs.now.licences c.take_kit.new.kits.items c.put_kit.new.kits.items c.plan-plan.result.now.licence c.licence-licence.result.now _
    (kits_without c.args.jobs.now.licences c.args.kits.now.items c.take_kit.new.kits.items c.plan-plan.result.now.licence c.requires.kits c.take_kit.ensures.kits) c.put_kit.ensures
    (licence_at c.args.jobs.now c.args.going.now.job (plan_of c.plan-plan.result.now) c.licence-licence.result.now c.plan-plan.ensures.is c.licence-licence.ensures.is)
    (record { judge = c.in-Ok.ensures.kit.judge; stack = c.slice_job-piece.ensures.stack })
